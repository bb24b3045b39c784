use Rattle.driver_passes.specs.RendersView.{item_view, renders_view}
use Rattle.rounds_ambiguity.proofs.Walks.{find-skip, find-found}
use Rattle.rounds_ambiguity.proofs.choose.first_asking.Goals as goal

pub loop-place-preserved : goal.loop-place-preserved
loop-place-preserved g c =
    find-skip (renders_view c.args.cites.now) (λ m. m.item) c.args.group.now c.loop-place.place-index (0, 0) (item_view c.member_at-item.result.now) c.loop-place-test.true c.member_at-item.ensures
    (λ i. i.checked_disambiguate) (λ i. i.entry) _ c.loop-place.invariant c.if-item.false

pub returns-then-item : goal.returns-then-item
returns-then-item g c =
    find-found (renders_view c.args.cites.now) (λ m. m.item) c.args.group.now c.loop-place.place-index (0, 0) (item_view c.member_at-item.result.now) c.loop-place-test.true c.member_at-item.ensures
    (λ i. i.checked_disambiguate) (λ i. i.entry) _ c.loop-place.invariant c.if-item.true
