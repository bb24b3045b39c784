-- What a caller derives from the laws of an answer in which works are told apart as CSL 1.0.2 has
-- it.
use Rattle.std.specs.Prelude.{◌≢◌, None, Option, Some, String, string_bytes}
use Rattle.std.specs.declared.alloc.Global.{Global}

-- both have letters, which differ
abbrev pub HaveOtherLetters : Option (String Global × String Global) → Type 0
HaveOtherLetters None = ⊥
HaveOtherLetters (Some letters) = string_bytes letters.0 ≢ string_bytes letters.1
