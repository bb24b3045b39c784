-- For the code: the cited entries, and the numbers that a listing gives them, by their places.
use Rattle.std.specs.Prelude.{◌≡◌, ℕ, ◌+◌, ◌<◌, ◌^◌, Bool, List, [], ◌∷◌, ◌++◌, length, map, Option, slice_get, unwrap_or}
use Rattle.std.specs.List.{range_with_len}
use Rattle.csl_driver.specs.declared.cited.Cited.{Cited}
use Rattle.driver_entries.specs.Entries.{bibliography_order, distinct}
use Rattle.driver_entries.specs.Listed.{IsListingOf, Listed}
use Rattle.driver_entries.specs.ListingView.{listing_view}
use Rattle.driver_entries.specs.Table.{table_of}
use Rattle.driver_entries.specs.TableView.{table_view}
use Rattle.driver_passes.specs.Request.{Request, cited}

-- the number that follows the offset by where the entry at a place stands in a listing; behind all
-- where it isn't listed
abbrev pub listed_number : Listed → ℕ → ℕ → ℕ
listed_number l offset p = offset + unwrap_or (slice_get l.numbers p) (length l.order)

-- the numbers of so many entries, and behind them that of the next one
abbrev pub numbers_at : Listed → ℕ → ℕ → List ℕ
numbers_at l offset count = map (listed_number l offset) (range_with_len 0 count)
    ++ listed_number l offset count ∷ []

-- the entries that requests cite, listed in the bibliography's order, whose numbers fit
pub record IsCitedBy {E P : Type 0} (eq : E → E
    → Bool) (requests : List (Request E P)) (order : Option (List E)) (c : Cited E) : Type 0 where
  pub table : table_view c.table ≡ table_of eq requests
  pub listed : IsListingOf eq (distinct eq (cited requests))
      (bibliography_order eq order (cited requests))
      (listing_view c.listing)
  pub fits : c.offset + length (distinct eq (cited requests)) < 2 ^ 64
