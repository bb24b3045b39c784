-- Where a style's cites stand.
use Rattle.std.specs.Prelude.{Bool, true, false}
use Rattle.value_styles.specs.declared.style.StyleClass.{StyleClass}
use Rattle.value_styles.specs.declared.style.StyleClass.TheVariants.{InText, Note}

abbrev pub is_note : StyleClass → Bool
is_note InText = false
is_note Note = true
