-- The indexes of groups.
use Rattle.std.proofs.Common.{◌≡◌, ℕ, zero, suc, ◌+◌, List, [], ◌∷◌, ◌++◌, sym, subst, ◌∙◌, ap, append-nil, arith}
use Rattle.std.specs.Prelude.{Vec}
use Rattle.std.specs.List.{range_with_len}
use Rattle.std.specs.List.Sorted.{IsPermutation}
use Rattle.std.proofs.lemmas.Grind.{flat_map-append}
use Rattle.std.proofs.lemmas.List.Sorted.{IsPermutation-append_left, IsPermutation-append_right, IsPermutation-refl, IsPermutation-trans}
use native.Mathlib.Numerals.{add-one}
use Rattle.cite_sorting.specs.Ties.{indexes_in}

module _ {A : Type 0} where
  pub indexes_appended : (groups others : List (Vec ℕ A)) → indexes_in (groups ++ others) ≡ indexes_in groups ++ indexes_in others
  indexes_appended groups others = flat_map-append (λ group. group.items) groups others

  pub indexes_pushed : (groups : List (Vec ℕ A)) (group : Vec ℕ A) → indexes_in (groups ++ group ∷ []) ≡ indexes_in groups ++ group.items
  indexes_pushed groups group =
      indexes_appended groups (group ∷ []) ∙ ap (λ is. indexes_in groups ++ is) (append-nil group.items)

pub same_order : (xs ys : List ℕ) → ys ≡ xs → IsPermutation xs ys
same_order xs ys e = subst (λ zs. IsPermutation xs zs) (sym e) (IsPermutation-refl xs)

-- what is shuffled behind other indexes
pub shuffled_behind : (first xs ys all : List ℕ) → all ≡ first ++ ys → IsPermutation xs ys → IsPermutation (first ++ xs) all
shuffled_behind first xs ys all e shuffled =
    subst (λ zs. IsPermutation (first ++ xs) zs) (sym e) (IsPermutation-append_right first xs ys shuffled)

-- one more group is read, and its indexes are put behind the finer groups
pub shuffled_on : {A : Type 0} (read : List (Vec ℕ A)) (group : Vec ℕ A) (done all : List ℕ) → IsPermutation (indexes_in read) done → IsPermutation (done ++ group.items) all → IsPermutation (indexes_in (read ++ group ∷ [])) all
shuffled_on read group done all before more =
    subst (λ xs. IsPermutation xs all) (sym (indexes_pushed read group))
    (IsPermutation-trans _ _ _ (IsPermutation-append_left group.items (indexes_in read) done before) more)

pub shuffled_again : (xs ys zs : List ℕ) → IsPermutation xs ys → IsPermutation ys zs → IsPermutation xs zs
shuffled_again = IsPermutation-trans

-- ---- the indexes of so many

longer : (a n j : ℕ) → a + n ≡ j → range_with_len a (suc n) ≡ range_with_len a n ++ j ∷ []
longer a zero j e = ap (λ i. i ∷ []) (omega (arith, e))
longer a (suc n) j e = ap (λ is. a ∷ is) (longer (a + 1) n j (omega (arith, e)))

pub one_more : (count : ℕ) → range_with_len 0 (count + 1) ≡ range_with_len 0 count ++ count ∷ []
one_more count = ap (range_with_len 0) (add-one count) ∙ longer 0 count count (omega arith)

pub one_group : {A : Type 0} (groups : List (Vec ℕ A)) (group : Vec ℕ A) (count : ℕ) → indexes_in groups ≡ group.items → group.items ≡ range_with_len 0 count → IsPermutation (range_with_len 0 count) (indexes_in groups)
one_group groups group count e f = same_order (range_with_len 0 count) (indexes_in groups) (e ∙ f)
