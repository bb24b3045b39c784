-- The brackets before and after a text, as characters.
use Rattle.std.specs.Prelude.{ℕ, Option, Some, None}
use Prim.Native.Char.{code}
use Rattle.driver_lookup.specs.declared.brackets.Brackets.{Brackets}

abbrev pub left_bracket : Brackets → Option ℕ
left_bracket Brackets.Round = Some (code "(")
left_bracket Brackets.Square = Some (code "[")
left_bracket Brackets.None = None

abbrev pub right_bracket : Brackets → Option ℕ
right_bracket Brackets.Round = Some (code ")")
right_bracket Brackets.Square = Some (code "]")
right_bracket Brackets.None = None
