use Rattle.std.proofs.Common.{◌&&◌, sym, ◌∙◌}
use Rattle.driver_lookup.specs.States.{may_get_names}
use Rattle.driver_passes.specs.RendersView.{item_view, renders_view}
use Rattle.rounds_ambiguity.proofs.Walks.{any-skip, any-found}
use Rattle.rounds_ambiguity.proofs.choose.may_be_chosen.Goals as goal

pub loop-place-preserved : goal.loop-place-preserved
loop-place-preserved g c =
    any-skip (renders_view c.args.cites.now) (λ m. m.item) c.args.group.now c.loop-place.place-index (0, 0) (item_view c.member_at.result.now) c.loop-place-test.true c.member_at.ensures
    (λ i. i.checked_disambiguate && may_get_names i.properties.speculative.disambiguation) _ c.loop-place.invariant (sym c.may_ask.ensures ∙ c.if-may_ask.false)

pub returns-then-may_ask : goal.returns-then-may_ask
returns-then-may_ask g c =
    any-found (renders_view c.args.cites.now) (λ m. m.item) c.args.group.now c.loop-place.place-index (0, 0) (item_view c.member_at.result.now) c.loop-place-test.true c.member_at.ensures
    (λ i. i.checked_disambiguate && may_get_names i.properties.speculative.disambiguation) _ c.loop-place.invariant (sym c.may_ask.ensures ∙ c.if-may_ask.true)
