-- The count of renderings.
use Rattle.std.specs.Prelude.{ℕ, zero, suc, ◌+◌, ◌-◌, ◌^◌, min}

-- one more; the greatest number of 128 bits stays
abbrev pub counted : ℕ → ℕ
counted n = min (n + 1) (2 ^ 128 - 1)

-- the count after n more renderings
abbrev pub counted_times : ℕ → ℕ → ℕ
counted_times zero old = old
counted_times (suc n) old = counted (counted_times n old)
