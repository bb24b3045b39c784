-- Blocks of a request's cites: those of one part of it that have the same names.
use Rattle.std.specs.Prelude.{ℕ, zero, suc, Bool, ◌&&◌, ◌||◌, List, find, filter, flat_map, if◌then◌else◌, is_some, length, map, nat_eq, slice_get}
use Rattle.std.specs.List.{enumerate_from, range_with_len}
use Rattle.std.specs.Option.{option_map_or}
use Rattle.mentions_ranges.specs.Stretches.{both}
use Rattle.mentions_ranges.specs.SuffixStretches.{is_alone}
use Rattle.mentions_blocks.specs.declared.blocks.GroupedCite.{GroupedCite}
use Rattle.mentions_blocks.specs.declared.blocks.PlacedCite.{PlacedCite}

-- words stand between two cites: behind the first one, or before the second
abbrev pub is_parted : GroupedCite → GroupedCite → Bool
is_parted b c = is_alone b.apart || is_some c.apart

module _ (cites : List GroupedCite) where
  -- the place at which the part begins in which the cite at k stands
  abbrev pub part : ℕ → ℕ
  part zero = zero
  part (suc k) =
      if both is_parted (slice_get cites k) (slice_get cites (suc k)) then suc k else part k

  -- both have names, which are the same, and stand in one part
  abbrev pub are_in_one_block : ℕ × GroupedCite → ℕ × GroupedCite → Bool
  are_in_one_block p q = both nat_eq p.1.names q.1.names && nat_eq (part p.0) (part q.0)

  -- the place of the first cite of the block of the k-th; its own where it has no names
  abbrev pub block_of : ℕ × GroupedCite → ℕ
  block_of p = option_map_or (λ q. q.0) (find (are_in_one_block p) (enumerate_from 0 cites)) p.0

  abbrev pub placed_cite : ℕ × GroupedCite → PlacedCite
  placed_cite p = record { place = p.0; block = block_of p }

  abbrev pub placed_cites : List PlacedCite
  placed_cites = map placed_cite (enumerate_from 0 cites)

  -- the cites of the block that begins at a place, in their order
  abbrev pub block : ℕ → List PlacedCite
  block k = filter (λ c. nat_eq k c.block) placed_cites

  -- block after block, each where its first cite stood
  abbrev pub block_order : List PlacedCite
  block_order = flat_map block (range_with_len 0 (length cites))
