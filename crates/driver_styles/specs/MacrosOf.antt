-- What a style whose macros were placed stands for: its macros.
use Rattle.std.specs.Prelude.{List}
use Rattle.value_styles.specs.Element.{Macro}
use Rattle.value_styles.specs.StyleView.{style_view}
use Rattle.driver_styles.specs.declared.macros.MacroTable.{MacroTable}

abbrev pub macros_of : MacroTable → List Macro
macros_of t = (style_view t.style.now).macros
