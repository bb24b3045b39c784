-- The letters with which a text begins. Texts are lists of bytes.
use Rattle.std.specs.Prelude.{ℕ, List, Option, None, Some, length, if◌then◌else◌, nat_eq}
use Rattle.std.specs.List.{starts_with}
use Rattle.cite_collation.specs.declared.letters.OwnLetter.{OwnLetter}

-- how many bytes the signs of a letter have, where a text begins with them
abbrev pub taken : List ℕ → OwnLetter → ℕ
taken text letter = if starts_with nat_eq text letter.0.now then length letter.0.now else 0

-- the same of a letter that was found
abbrev pub taken_by : List ℕ → Option OwnLetter → ℕ
taken_by text None = 0
taken_by text (Some letter) = taken text letter
