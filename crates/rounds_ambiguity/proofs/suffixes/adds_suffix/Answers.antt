use Rattle.value_styles.specs.StyleView.{style_view}
use Rattle.driver_passes.specs.RendersView.{renders_view}
use Rattle.rounds_ambiguity.proofs.Walks.{any-found, any-skip}
use Rattle.rounds_ambiguity.proofs.suffixes.adds_suffix.Goals as goal

pub loop-place-preserved : goal.loop-place-preserved
loop-place-preserved g c =
    any-skip (renders_view c.args.cites.now) (λ m. m.style) c.args.group.now c.loop-place.place-index (0, 0) (style_view c.style_at.result.now) c.loop-place-test.true c.style_at.ensures
    (λ s. s.citation.disambiguate_add_year_suffix) _ c.loop-place.invariant c.if-style_at.false

pub returns-then-style_at : goal.returns-then-style_at
returns-then-style_at g c =
    any-found (renders_view c.args.cites.now) (λ m. m.style) c.args.group.now c.loop-place.place-index (0, 0) (style_view c.style_at.result.now) c.loop-place-test.true c.style_at.ensures
    (λ s. s.citation.disambiguate_add_year_suffix) _ c.loop-place.invariant c.if-style_at.true
