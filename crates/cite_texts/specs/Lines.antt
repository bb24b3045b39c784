-- Characters that stand in no line.
use Rattle.std.specs.Prelude.{ℕ, Bool, ◌||◌, ◌==◌}
use Rattle.std.specs.Char.{is_control}

-- control characters, and those that end a line or a paragraph
abbrev pub is_of_no_line : ℕ → Bool
is_of_no_line c = is_control c || c == 0x2028 || c == 0x2029
