use Rattle.std.proofs.Common.{ap, slice_get, sym, ◌∙◌}
use Rattle.mentions_groups.proofs.Finding.{found-at}
use Rattle.mentions_groups.proofs.shown.person_at.Goals as goal

pub returns-then-eq : goal.returns-then-eq
returns-then-eq c =
    found-at c.args.variables.now c.loop-pair.pair-index c.pair-item.result c.args.variable c.args.place _ c.loop-pair-test.true c.pair-item.is (sym c.eq.ensures ∙ c.if-eq.true)
    (c.nth.ensures ∙ ap (λ ps. slice_get ps c.args.place) c.as_slice.ensures) c.loop-pair.invariant
