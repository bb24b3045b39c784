-- The places of entries that are listed or cited lie within their table.
use Rattle.std.proofs.Common.{Option, ℕ, ◌≡◌, ◌+◌, ◌<◌, ◌^◌, Bool, true, List, [], ◌∷◌, length, map, ap, sym, subst}
use Rattle.std.specs.Prelude.{All}
use Rattle.std.specs.Cmp.{IsEquivalence}
use Rattle.std.proofs.lemmas.List.Elements.{All-cons, All-nil}
use Rattle.csl_driver.specs.Cited.{IsCitedBy, listed_number, numbers_at}
use Rattle.csl_driver.specs.declared.cited.Cited.{Cited}
use Rattle.driver_entries.specs.Entries.{bibliography_order, distinct, number}
use Rattle.driver_entries.specs.Laws.{NoTwoEqual}
use Rattle.driver_entries.specs.Listed.{IsListingOf, Listed}
use Rattle.driver_entries.specs.ListingView.{listing_view}
use Rattle.driver_entries.specs.Table.{Table, places_in, table_of}
use Rattle.driver_entries.specs.TableView.{table_view}
use Rattle.driver_entries.proofs.Distinct.{is_in-distinct}
use Rattle.driver_entries.proofs.ListedPlaces.{all-cited, places-below}
use Rattle.driver_entries.proofs.Once.{NoTwoEqual-distinct}
use Rattle.driver_entries.proofs.Placing.{all_in, all_in-behind, all_in-front}
use Rattle.driver_passes.specs.Request.{Request, cited, entries_of}
use Rattle.driver_positions.specs.FirstProperties.{numbered_by}
use Rattle.csl_driver.proofs.Counted.{fits, numbered, one-behind}

module _ {E : Type 0} (eq : E → E → Bool) (laws : IsEquivalence eq) where
  -- of a listing
  listed-within : (entries order : List E) (l : Listed) → IsListingOf eq entries order l → All (λ p. p < length entries) l.order
  listed-within entries order l h =
      subst (All (λ p. p < length entries)) (sym (ap (λ (m : Listed). m.order) h.listed)) (places-below eq laws entries order (all-cited eq laws entries order h.same))

  module _ {P : Type 0} where
    rows-within : (entries : List E) (requests : List (Request E P)) → all_in eq laws entries (cited requests) ≡ true
        → All (λ ps. All (λ p. p < length entries) ps) (map (λ r. places_in eq entries r.cites) requests)
    rows-within entries [] h = All-nil (λ ps. All (λ p. p < length entries) ps)
    rows-within entries (r ∷ requests) h =
        All-cons (λ ps. All (λ p. p < length entries) ps) (places_in eq entries r.cites) (map (λ q. places_in eq entries q.cites) requests)
        (places-below eq laws entries (entries_of r.cites) (all_in-front eq laws entries (entries_of r.cites) (cited requests) h))
        (rows-within entries requests (all_in-behind eq laws entries (entries_of r.cites) (cited requests) h))

    module _ (requests : List (Request E P)) (table : Table E) (is : table ≡ table_of eq requests) where
      -- of a table of requests
      pub table-within : All (λ ps. All (λ p. p < length table.entries) ps) table.places
      table-within =
          subst (λ (t : Table E). All (λ ps. All (λ p. p < length t.entries) ps) t.places) (sym is)
          (rows-within (distinct eq (cited requests)) requests
          (all-cited eq laws (distinct eq (cited requests)) (cited requests) (λ e. sym (is_in-distinct eq laws e (cited requests)))))

      -- each of its entries stands there once
      pub table-once : NoTwoEqual eq table.entries
      table-once = subst (λ (t : Table E). NoTwoEqual eq t.entries) (sym is) (NoTwoEqual-distinct eq laws (cited requests))

-- what is known of the cited entries, over the table's own entries
module _ {E P : Type 0} {eq : E → E → Bool} {requests : List (Request E P)} {order : Option (List E)} {c : Cited E} (known : IsCitedBy eq requests order c) where
  pub known-listed : IsListingOf eq (table_view c.table).entries (bibliography_order eq order (cited requests)) (listing_view c.listing)
  known-listed = subst (λ (t : Table E). IsListingOf eq t.entries (bibliography_order eq order (cited requests)) (listing_view c.listing)) (sym known.table) known.listed

  pub known-within : IsEquivalence eq → All (λ p. p < length (table_view c.table).entries) (listing_view c.listing).order
  known-within laws = listed-within eq laws (table_view c.table).entries (bibliography_order eq order (cited requests)) (listing_view c.listing) known-listed

  -- the numbers of a listing of them fit, there is one for each and for the next, and they are those of its order
  module _ {listed : List E} {l : Listed} (h : IsListingOf eq (table_view c.table).entries listed l) where
    pub numbers-fit : (p : ℕ) → listed_number l c.offset p < 2 ^ 64
    numbers-fit = fits eq (table_view c.table).entries listed l h c.offset (subst (λ (t : Table E). c.offset + length t.entries < 2 ^ 64) (sym known.table) known.fits)

    pub numbers-long : length (numbers_at l c.offset (length (table_view c.table).entries)) ≡ length (table_view c.table).entries + 1
    numbers-long = one-behind eq (table_view c.table).entries listed l h c.offset (length (table_view c.table).entries)

    pub numbers-are : numbered_by eq (numbers_at l c.offset (length (table_view c.table).entries)) (table_view c.table).entries ≡ number eq c.offset listed
    numbers-are = numbered eq (table_view c.table).entries listed l h c.offset
