-- Laws of the definitions.
use Rattle.std.specs.Prelude.{◌≡◌, ℕ, ◌+◌, Bool, false, List, [], ◌∷◌, length, map, Option, ⊤}
use Rattle.std.specs.List.{range_with_len}
use Rattle.driver_entries.specs.Entries.{is_in, place, bibliography_order}

module _ {E : Type 0} (eq : E → E → Bool) where
  -- no two members are equal
  abbrev pub NoTwoEqual : List E → Type 0
  NoTwoEqual [] = ⊤
  NoTwoEqual (x ∷ xs) = (is_in eq x xs ≡ false) × NoTwoEqual xs

  -- the bibliography has the cited entries and no others, each once
  pub record HoldsEachOnce (order : Option (List E)) (cited : List E) : Type 0 where
    pub same : (e : E) → is_in eq e (bibliography_order eq order cited) ≡ is_in eq e cited
    pub once : NoTwoEqual (bibliography_order eq order cited)

  -- the numbers of its entries are the offset and those that follow, without gaps
  abbrev pub NumbersWithoutGaps : ℕ → List E → Type 0
  NumbersWithoutGaps offset entries = map (λ e. offset + place eq e entries) entries
      ≡ range_with_len offset (length entries)
