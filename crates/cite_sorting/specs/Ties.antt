-- Groups of cites whose keys are all equal.
use Rattle.std.specs.Prelude.{ℕ, Bool, List, [], true, ◌∷◌, ◌++◌, Option, Some, None, Vec, flat_map, if◌then◌else◌}
use Rattle.std.specs.List.{range_with_len}
use Rattle.std.specs.List.Sorted.{IsPermutation}
use Rattle.std.specs.Ordering.{nat_cmp, ordering_then}
use Rattle.std.specs.declared.cmp.Ordering.{Ordering}
use Rattle.cite_sorting.specs.declared.ties.Row.{Row}

-- the indexes of all groups, in their order
abbrev pub indexes_in : {A : Type 0} → List (Vec ℕ A) → List ℕ
indexes_in ties = flat_map (λ tied. tied.items) ties

-- each of so many cites is there once
abbrev pub IsOrderOf : ℕ → List ℕ → Type 0
IsOrderOf count indexes = IsPermutation (range_with_len 0 count) indexes

module _ {V : Type 0} (eq : V → V → Bool) where
  -- whether a value is that of the row before, if there is one
  abbrev pub is_tied : Option V → V → Bool
  is_tied None value = true
  is_tied (Some before) value = eq before value

  -- the indexes of rows in groups of neighbours whose values are equal; the first group has begun
  abbrev pub runs : Option V → List ℕ → List (Row V) → List (List ℕ)
  runs before begun [] = begun ∷ []
  runs before begun (row ∷ rows) = if is_tied before row.value
      then runs (Some row.value) (begun ++ row.index ∷ []) rows
      else begun ∷ runs (Some row.value) (row.index ∷ []) rows

-- rows compare by their values, and where these are equal by their indexes
abbrev pub row_cmp : {V : Type 0} → (V → V → Ordering) → Row V → Row V → Ordering
row_cmp cmp a b = ordering_then (cmp a.value b.value) (nat_cmp a.index b.index)
