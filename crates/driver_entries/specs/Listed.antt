-- The order of the bibliography and the numbers of the cited entries.
use Rattle.std.specs.Prelude.{◌≡◌, ℕ, Bool, List, length, map, nat_eq, Option, slice_get, unwrap_or}
use Rattle.std.specs.List.{range_with_len}
use Rattle.driver_entries.specs.Entries.{bibliography_order, distinct, is_in, place}

pub record Listed : Type 0 where
  -- the places of the entries, in their order
  pub order : List ℕ
  -- by the places of the entries, where each stands in the order
  pub numbers : List ℕ

-- so many entries, by their places, in the order of these
abbrev pub listed_places : ℕ → List ℕ → Listed
listed_places count places =
    let order = distinct nat_eq places in
    record { order = order; numbers = map (λ p. place nat_eq p order) (range_with_len 0 count) }

module _ {E : Type 0} (eq : E → E → Bool) where
  -- these entries in this order
  abbrev pub listed_by : List E → List E → Listed
  listed_by entries order = record {
    order = map (λ e. place eq e entries) order;
    numbers = map (λ e. place eq e order) entries;
  }

  -- a listing of these entries in this order, which are the same, each once
  pub record IsListingOf (entries order : List E) (l : Listed) : Type 0 where
    pub listed : l ≡ listed_by entries order
    pub same : (e : E) → is_in eq e order ≡ is_in eq e entries
    pub count : length order ≡ length entries
    -- by its place an entry has the number of its place in the order, and that behind all where it
    -- isn't among them
    pub numbered : (e : E) → unwrap_or (slice_get l.numbers (place eq e entries)) (length l.order)
        ≡ place eq e order

  -- the distinct entries of all that is cited, in the order of the bibliography
  abbrev pub ListsAll : Option (List E) → List E → Listed → Type 0
  ListsAll order entries l =
      (cited : List E) → entries ≡ distinct eq cited
      → IsListingOf entries (bibliography_order eq order cited) l
