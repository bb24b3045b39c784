use Rattle.std.proofs.Common.{ap, not, sym, ◌∙◌}
use Rattle.driver_passes.specs.RendersView.{item_view, renders_view}
use Rattle.rounds_ambiguity.proofs.Walks.{any-found, any-skip}
use Rattle.rounds_ambiguity.proofs.ambiguity.cites_another.Goals as goal

pub loop-place-preserved : goal.loop-place-preserved
loop-place-preserved g c =
    any-skip (renders_view c.args.cites.now) (λ m. m.item) c.args.places.now c.loop-place.place-index (0, 0) (item_view c.member_at.result.now) c.loop-place-test.true c.member_at.ensures
    (λ i. not (g.T.PartialEq.eq c.args.entry.now i.entry)) _ c.loop-place.invariant (ap not (sym c.eq.ensures ∙ c.if-not-eq.false))

pub returns-then-not-eq : goal.returns-then-not-eq
returns-then-not-eq g c =
    any-found (renders_view c.args.cites.now) (λ m. m.item) c.args.places.now c.loop-place.place-index (0, 0) (item_view c.member_at.result.now) c.loop-place-test.true c.member_at.ensures
    (λ i. not (g.T.PartialEq.eq c.args.entry.now i.entry)) _ c.loop-place.invariant (ap not (sym c.eq.ensures ∙ c.if-not-eq.true))
