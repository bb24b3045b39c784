-- What a prepared style stands for: the style that it was made of.
use Rattle.value_styles.specs.declared.style.IndependentStyle.{IndependentStyle}
use Rattle.value_styles.specs.Style.{StyleValue}
use Rattle.value_styles.specs.StyleView.{style_view}
use Rattle.driver_styles.specs.declared.prepared.PreparedStyle.{PreparedStyle}

abbrev pub made_of : PreparedStyle → IndependentStyle
made_of s = s.macros.style.now

abbrev pub prepared_view : PreparedStyle → StyleValue
prepared_view s = style_view (made_of s)
