-- For the code: a list in another order.
use Rattle.std.specs.Prelude.{◌≡◌, ℕ, ◌<◌, List, length, slice_index, slice_index_or}

-- ys are the members of xs at these places, one after another
pub record IsPicked {X : Type 0} (xs : List X) (order : List ℕ) (ys : List X) : Type 0 where
  pub count : length ys ≡ length order
  pub members : (k : ℕ) (d : X) → k < length order
      → slice_index_or ys k d ≡ slice_index_or xs (slice_index order k) d
