-- Lists of entries up to their own equality, and the order and the numbers that they get.
use Rattle.std.specs.Prelude.{ℕ, ◌+◌, Bool, not, List, [], ◌∷◌, ◌++◌, filter, fold, if◌then◌else◌, Option, Some, None}
use Rattle.std.specs.List.{list_any, position_or_len}

module _ {E : Type 0} (eq : E → E → Bool) where
  -- each member at its first place only
  abbrev pub distinct : List E → List E
  distinct [] = []
  distinct (x ∷ xs) = x ∷ filter (λ y. not (eq x y)) (distinct xs)

  -- some member is equal to e
  abbrev pub is_in : E → List E → Bool
  is_in e xs = list_any (eq e) xs

  -- the place of the first member that is equal to e, from 0; the length where there is none
  abbrev pub place : E → List E → ℕ
  place e xs = position_or_len (eq e) xs

  -- the bibliography's entries, each once: those of the handed order that are cited, then all that
  -- are cited
  abbrev pub bibliography_order : Option (List E) → List E → List E
  bibliography_order None cited = distinct cited
  bibliography_order (Some order) cited = distinct (filter (λ e. is_in e cited) order ++ cited)

  -- the number of an entry, where those of these entries begin at the offset
  abbrev pub number : ℕ → List E → E → ℕ
  number offset entries e = offset + place e entries

  -- xs with y at its end, unless a member is equal to it
  abbrev pub with_new : List E → E → List E
  with_new xs y = if is_in y xs then xs else xs ++ y ∷ []

  -- ys added to xs one after another
  abbrev pub with_all_new : List E → List E → List E
  with_all_new xs ys = fold with_new xs ys
