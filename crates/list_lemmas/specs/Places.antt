-- Places in a list, from 0, and stretches of them that are as long as can be.
use Rattle.std.specs.Prelude.{ℕ, ◌+◌, ◌-◌, Bool, not, ◌&&◌, List, nat_lt}
use Rattle.std.specs.List.{range_with_len}

-- the places from a on that are before b
abbrev pub places : ℕ → ℕ → List ℕ
places a b = range_with_len a (b - a)

-- the test holds of the places from a to b, and neither of those from the place before a nor of
-- those to the place behind b
abbrev pub is_maximal : (ℕ → ℕ → Bool) → ℕ → ℕ → Bool
is_maximal holds a b = holds a b && not (nat_lt 0 a && holds (a - 1) b) && not (holds a (b + 1))
