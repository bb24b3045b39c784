use Rattle.std.proofs.Common.{Ok}
use Rattle.cite_sorting.proofs.Runs.{group_step}
use Rattle.cite_sorting.proofs.ties.disambiguated.Given as given
use Rattle.cite_sorting.proofs.ties.disambiguated.Goals as goal

pub loop-tied-preserved : goal.loop-tied-preserved
loop-tied-preserved g c =
    group_step g.V.Ord.cmp g.met.V.Ord.total (λ k i v. given.F-post g c.args.value.now k i (Ok v)) c.args.key
    c.args.ties.items c.loop-tied.yielded c.in-Some.tied c.loop-tied.tied-iterator.rest.items c.next.new.self.rest.items
    c.loop-tied.finer.items c.in_ok-parts_of.field-0.items c.append.new.self.items
    c.in-Some.ensures.steps.0 c.in_ok-append.ensures.items c.in_ok-parts_of.ensures.same c.in_ok-parts_of.ensures.order c.loop-tied.invariant
