-- The numbers between two others.
use Rattle.std.specs.Prelude.{ℕ, ◌+◌, ◌-◌, List}
use Rattle.std.specs.List.{range_with_len}

-- the numbers strictly between two
abbrev pub between : ℕ → ℕ → List ℕ
between a b = range_with_len (a + 1) (b - (a + 1))
