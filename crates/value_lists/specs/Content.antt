-- Texts that hold something beside white space, which is Unicode's.
use Rattle.std.specs.Prelude.{ℕ, Bool, List}
use Rattle.std.specs.List.{list_any}
use Rattle.std.specs.Char.{is_not_whitespace}
use Rattle.std.specs.Str.{chars}

abbrev pub text_has_content : List ℕ → Bool
text_has_content bytes = list_any is_not_whitespace (chars bytes)
