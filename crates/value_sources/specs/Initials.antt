-- The initials of a given name.
use Rattle.std.specs.Prelude.{ℕ, List, [], take, Bool, ◌||◌, ◌==◌, Option, Some, None}
use Rattle.std.specs.List.{flat_map, slice_split}
use Rattle.std.specs.Char.{is_whitespace}
use Rattle.std.specs.Str.{chars, encode_utf8_all}
use Prim.Native.Char.{code}

-- white space and hyphens stand between the parts of a name
abbrev pub parts_name : ℕ → Bool
parts_name c = is_whitespace c || c == code "-"

-- the first character of each part that has one
abbrev pub initials : List ℕ → List ℕ
initials cs = flat_map (take 1) (slice_split parts_name cs)

-- in UTF-8, where there may be no given name
abbrev pub given_initials : Option (List ℕ) → List ℕ
given_initials None = []
given_initials (Some name) = encode_utf8_all (initials (chars name))
