-- Blocks stand in the order of their first cites.
use Rattle.std.specs.Prelude.{◌≡◌, ℕ, ◌<◌, ◌≤◌, Bool, true, List, Some, slice_get}
use Rattle.mentions_blocks.specs.Blocks.{placed_cites}
use Rattle.mentions_blocks.specs.declared.blocks.GroupedCite.{GroupedCite}
use Rattle.mentions_blocks.specs.declared.blocks.PlacedCite.{PlacedCite}

-- the cites of a request, which are brought into blocks or aren't, and where each of them stands in
-- their final order, with the place of the first cite of its block
pub record AreInBlockOrder (groups : Bool) (cites : List GroupedCite) (order : List PlacedCite) :
    Type 0 where
  -- each has its own block
  pub own_blocks : groups ≡ true → (k : ℕ) (p : PlacedCite) → slice_get order k ≡ Some p
      → slice_get (placed_cites cites) p.place ≡ Some p
  -- no cite of a later block stands before one of an earlier
  pub by_first_cites : groups ≡ true → (i j : ℕ) (p q : PlacedCite) → i < j
      → slice_get order i ≡ Some p → slice_get order j ≡ Some q → p.block ≤ q.block
