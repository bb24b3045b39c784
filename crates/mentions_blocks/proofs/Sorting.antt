-- A stable sort by numbers puts the members of each class together.
use Rattle.std.proofs.Common.{◌≡◌, ℕ, zero, suc, ◌+◌, ◌<◌, ◌≤◌, Bool, true, false, cond, List, [], ◌∷◌, ◌++◌, All, filter, flat_map, length, get_or, is_lt, nat_cmp, refl, ap, sym, ◌∙◌, arith, suc-le-suc, zero-le}
use Rattle.std.specs.Prelude.{nat_eq}
use Rattle.std.specs.List.{range_with_len}
use Rattle.std.specs.List.Sorted.{IsNonDecreasingBy, IsPermutation, IsStableByKey, ties}
use Rattle.std.specs.Cmp.{nat_eq_equiv}
use Rattle.std.proofs.lemmas.Bool.{eqb-true}
use Rattle.std.proofs.lemmas.Bool.Decides.{Decides-eqb, nat_tests}
use Rattle.std.proofs.lemmas.List.Elements.{All-tail, filter_agree}
use Rattle.std.proofs.lemmas.List.Sorted.{All-permutation}
use Rattle.list_lemmas.proofs.Tests.{same_test}

ties-at : (m n : ℕ) → (ties (λ x y. is_lt (nat_cmp x y)) m n ≡ true → m ≡ n) × (m ≡ n → ties (λ x y. is_lt (nat_cmp x y)) m n ≡ true)
ties-at m n = (λ h. grind (arith, nat_tests), λ h. grind (arith, nat_tests))

ties-are : (m n : ℕ) → ties (λ x y. is_lt (nat_cmp x y)) m n ≡ nat_eq m n
ties-are m n = same_test (ties (λ x y. is_lt (nat_cmp x y)) m n) (nat_eq m n) (λ h. (Decides-eqb m n).1 ((ties-at m n).0 h)) (λ h. (ties-at m n).1 (eqb-true m n h))

other : (a b : ℕ) → a < b → nat_eq a b ≡ false
other a b h = grind (arith, nat_tests)

more : (a b : ℕ) → a ≤ b → nat_eq a b ≡ false → a + 1 ≤ b
more a b h e = grind (arith, nat_tests)

-- classes with one member more, in front of one of them
module _ {X : Type 0} (y : X) (b : ℕ) (g : ℕ → List X) where
  abbrev with_one : ℕ → List X
  with_one j = cond (nat_eq j b) (y ∷ g j) (g j)

  past : (a n : ℕ) → b < a → flat_map with_one (range_with_len a n) ≡ flat_map g (range_with_len a n)
  past a zero h = refl
  past a (suc n) h =
      let ne : nat_eq a b ≡ false = nat_eq_equiv.symm a b ∙ other b a h in
      λ i. cond (ne i) (y ∷ g a) (g a) ++ past (a + 1) n (omega arith) i

  put : ((j : ℕ) → j < b → g j ≡ []) → (a n : ℕ) → a ≤ b → b < a + n → flat_map with_one (range_with_len a n) ≡ y ∷ flat_map g (range_with_len a n)
  put none a zero le lt = absurd (omega arith)
  put none a (suc n) le lt = by (nat_eq a b) refl (λ w. put none (a + 1) n w (omega arith))
    where
      by : (t : Bool) → nat_eq a b ≡ t → (a + 1 ≤ b → flat_map with_one (range_with_len (a + 1) n) ≡ y ∷ flat_map g (range_with_len (a + 1) n))
          → cond t (y ∷ g a) (g a) ++ flat_map with_one (range_with_len (a + 1) n) ≡ y ∷ (g a ++ flat_map g (range_with_len (a + 1) n))
      by true e r = let same = eqb-true a b e in ap (λ l. y ∷ (g a ++ l)) (past (a + 1) n (omega arith))
      by false e r =
          let w = more a b le e in
          let empty = none a (omega arith) in
          ap (λ l. l ++ flat_map with_one (range_with_len (a + 1) n)) empty ∙ r w ∙ sym (ap (λ l. y ∷ (l ++ flat_map g (range_with_len (a + 1) n))) empty)

module _ {X : Type 0} (key : X → ℕ) where
  abbrev pub class : List X → ℕ → List X
  class xs b = filter (λ x. nat_eq b (key x)) xs

  -- the keys rise from a on
  abbrev Rises : ℕ → List X → Type 0
  Rises a [] = Unit {0}
  Rises a (y ∷ ys) = (a ≤ key y) × Rises (key y) ys

  rises-from : (a : ℕ) (ys : List X) → ((d : X) → 0 < length ys → a ≤ key (get_or ys 0 d)) → IsNonDecreasingBy key ys → Rises a ys
  rises-from a [] h s = tt
  rises-from a (y ∷ ys) h s = (
    h y (suc-le-suc zero-le),
    rises-from (key y) ys (λ d lt. s zero (suc zero) d zero-le (suc-le-suc lt)) (λ i j d le lt. s (suc i) (suc j) d (suc-le-suc le) (suc-le-suc lt)),
  )

  lower : (a b : ℕ) (ys : List X) → a ≤ b → Rises b ys → Rises a ys
  lower a b [] le h = tt
  lower a b (y ∷ ys) le h = let first = h.0 in (omega arith, h.1)

  none-below : (a b : ℕ) (ys : List X) → a < b → Rises b ys → class ys a ≡ []
  none-below a b [] lt h = refl
  none-below a b (y ∷ ys) lt h =
      let first = h.0 in
      ap (λ t. cond t (y ∷ class ys a) (class ys a)) (other a (key y) (omega arith)) ∙ none-below a b ys lt (lower b (key y) ys first h.1)

  classes-of-none : (a n : ℕ) → flat_map (class []) (range_with_len a n) ≡ []
  classes-of-none a zero = refl
  classes-of-none a (suc n) = classes-of-none (a + 1) n

  classed : (n : ℕ) (ys : List X) → Rises 0 ys → All (λ y. key y < n) ys → flat_map (class ys) (range_with_len 0 n) ≡ ys
  classed n [] h all = classes-of-none 0 n
  classed n (y ∷ ys) h all =
      let within : key y < n = all 0 y (suc-le-suc zero-le) in
      put y (key y) (class ys) (λ j lt. none-below j (key y) ys lt h.1) 0 n zero-le (omega arith)
      ∙ ap (λ l. y ∷ l) (classed n ys (lower 0 (key y) ys zero-le h.1) (All-tail (λ y. key y < n) y ys all))

  -- members sorted by their keys, class by class
  pub sorted-classes : (n : ℕ) (xs ys : List X) → All (λ x. key x < n) xs → IsPermutation xs ys → IsNonDecreasingBy key ys
      → ((b : ℕ) → class ys b ≡ class xs b) → ys ≡ flat_map (class xs) (range_with_len 0 n)
  sorted-classes n xs ys all moved up same =
      sym (classed n ys (rises-from 0 ys (λ d lt. zero-le) up) (All-permutation (λ x. key x < n) xs ys moved all)) ∙ (λ i. flat_map (λ b. same b i) (range_with_len 0 n))

  -- a stable sort keeps each class, where each key is that of some member
  pub classes-stay : (xs ys : List X) → IsStableByKey key nat_cmp xs ys → (x : X) (b : ℕ) → key x ≡ b → class ys b ≡ class xs b
  classes-stay xs ys stable x b e = sym (passes ys) ∙ stable x ∙ passes xs
    where
      passes : (zs : List X) → filter (ties (λ x y. is_lt (nat_cmp (key x) (key y))) x) zs ≡ class zs b
      passes zs = filter_agree (ties (λ x y. is_lt (nat_cmp (key x) (key y))) x) (λ z. nat_eq b (key z)) (λ z. ties-are (key x) (key z) ∙ ap (λ n. nat_eq n (key z)) e) zs
