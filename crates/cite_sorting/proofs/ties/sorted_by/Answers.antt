use Rattle.std.proofs.Common.{Ok}
use Rattle.cite_sorting.proofs.Runs.{in_order}
use Rattle.cite_sorting.proofs.ties.sorted_by.Given as given
use Rattle.cite_sorting.proofs.ties.sorted_by.Goals as goal

pub returns-clause-order : goal.returns-clause-order
returns-clause-order g c =
    in_order g.V.Ord.cmp g.met.V.Ord.total (λ k i v. given.F-post g c.args.value k i (Ok v)) c.args.keys c.in_ok-ties.ties.items c.in_ok-joined.field-0.items
    c.in_ok-joined.ensures c.in_ok-ties.ensures.order
