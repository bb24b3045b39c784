use Rattle.std.proofs.Common.{Bor, sym, subst}
use Rattle.value_styles.specs.declared.style.IndependentStyle.{IndependentStyle}
use Rattle.value_styles.specs.Ring.{HasNoRing}
use Rattle.value_styles.specs.StyleView.{style_view}
use Rattle.driver_styles.proofs.suffix_text.explicit_suffix.Goals as goal

pub suffix_by_table-requires : goal.suffix_by_table-requires
suffix_by_table-requires c =
    subst (λ (s : Bor IndependentStyle). HasNoRing (style_view s.now).macros) (sym c.in_ok-macros.ensures) c.requires
