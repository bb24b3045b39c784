use Rattle.std.proofs.Common.{Ok, arith}
use Rattle.cite_sorting.proofs.Groups.{shuffled_again}
use Rattle.cite_sorting.proofs.Runs.{begun, up_to}
use Rattle.cite_sorting.proofs.ties.tied_by.Given as given
use Rattle.cite_sorting.proofs.ties.tied_by.Goals as goal

pub loop-key-init : goal.loop-key-init
loop-key-init g c =
    begun g.V.Ord.cmp g.met.V.Ord.total (λ k i v. given.F-post g c.args.value.now k i (Ok v)) c.args.cites c.in_ok-all_indexes.field-0 c.in_ok-ties.ties.items
    c.in_ok-ties.ensures c.in_ok-all_indexes.ensures

pub loop-key-preserved : goal.loop-key-preserved
loop-key-preserved g c =
    (shuffled_again _ _ _ c.loop-key.invariant.0 c.in_ok-ties-2.ensures.same, c.in_ok-ties-2.ensures.order c.loop-key.invariant.1)

pub returns-clause-order : goal.returns-clause-order
returns-clause-order g c =
    up_to g.V.Ord.cmp g.met.V.Ord.total (λ k i v. given.F-post g c.args.value.now k i (Ok v)) c.loop-key.key c.args.keys c.loop-key.ties.items
    (omega (arith, c.loop-key.auto.key-end)) (omega (arith, c.loop-key-test.false)) c.loop-key.invariant.1
