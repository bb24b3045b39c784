-- Parts of blocks: cites that show the same names, or none behind one that does.
use Rattle.std.specs.Prelude.{ℕ, zero, suc, Bool, true, false, ◌&&◌, List, None, Option, Some, if◌then◌else◌, length, map, nat_eq, slice_get}
use Rattle.std.specs.List.{range_with_len}
use Rattle.std.specs.Option.{option_and_then, option_map_or}
use Rattle.mentions_ranges.specs.Stretches.{both}
use Rattle.mentions_blocks.specs.declared.parts.ShownCite.{ShownCite}

-- a cite goes on with the part of the one before it, which shows these names: it is of the same
-- block, and shows them too, or none
abbrev pub goes_on : Option ℕ → ShownCite → ShownCite → Bool
goes_on None before c = false
goes_on (Some names) before c =
    nat_eq before.block c.block && option_map_or (nat_eq names) c.names true

module _ (cites : List ShownCite) where
  -- the names that the cite at k shows, if it is there and shows any
  abbrev pub shown_at : ℕ → Option ℕ
  shown_at k = option_and_then (λ c. c.names) (slice_get cites k)

  -- the names of the part in which the cite at k stands: those of its first cite
  abbrev pub names_at : ℕ → Option ℕ
  names_at zero = shown_at zero
  names_at (suc k) =
      if both (goes_on (names_at k)) (slice_get cites k) (slice_get cites (suc k))
      then names_at k else shown_at (suc k)

  -- the cite behind the one at k is of its part
  abbrev pub joins : ℕ → Bool
  joins k = both (goes_on (names_at k)) (slice_get cites k) (slice_get cites (suc k))

  -- the place at which the part begins in which the cite at k stands
  abbrev pub part_at : ℕ → ℕ
  part_at zero = zero
  part_at (suc k) = if joins k then part_at k else suc k

  abbrev pub parts : List ℕ
  parts = map part_at (range_with_len 0 (length cites))
