-- What was looked at once.
use Rattle.std.proofs.Common.{Bor, ◌∙◌, sym, subst}
use Rattle.value_styles.specs.declared.style.IndependentStyle.{IndependentStyle}
use Rattle.value_styles.specs.Ring.{HasNoRing}
use Rattle.value_styles.specs.StyleView.{style_view}
use Rattle.driver_styles.proofs.prepared.PreparedStyle.new.Goals as goal

pub suffix_by_table-requires : goal.suffix_by_table-requires
suffix_by_table-requires c =
    subst (λ (s : Bor IndependentStyle). HasNoRing (style_view s.now).macros) (sym c.in_ok-macros.ensures) (c.in_ok-place.ensures.none c.in_default.is)

pub invariant_of-result : goal.invariant_of-result
invariant_of-result c = record {
  no_ring = subst (λ (s : Bor IndependentStyle). HasNoRing (style_view s.now).macros) (sym c.in_ok-macros.ensures) (c.in_ok-place.ensures.none c.in_default.is);
  suffix = c.in_ok-has_suffix.ensures;
  own = c.in_ok-terms.ensures ∙ c.deref.ensures.value ∙ (λ j. (sym c.in_ok-macros.ensures j).now.locale.items);
}
