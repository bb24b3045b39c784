-- Lists with no two equal members, as those of distinct ones.
use Rattle.std.proofs.Common.{◌≡◌, ℕ, ◌+◌, Bool, true, false, cond, not, List, [], ◌∷◌, map, filter, refl, ap, sym, ◌∙◌, arith}
use Rattle.std.specs.List.{AllByRecursion, enumerate_from}
use Rattle.std.specs.Cmp.{IsEquivalence}
use Rattle.driver_entries.specs.Entries.{distinct, place}
use Rattle.driver_entries.proofs.Distinct.{others}

pub all-filter : {E : Type 0} (Q : E → Type 0) (p : E → Bool) (xs : List E) → AllByRecursion Q xs → AllByRecursion Q (filter p xs)
all-filter Q p [] h = h
all-filter Q p (x ∷ xs) h = by (p x) (all-filter Q p xs h.1)
  where
    by : (b : Bool) → AllByRecursion Q (filter p xs) → AllByRecursion Q (cond b (x ∷ filter p xs) (filter p xs))
    by true k = (h.0, k)
    by false k = k

module _ {E : Type 0} (eq : E → E → Bool) where
  -- no two of them are equal
  abbrev pub NoTwoEqual : List E → Type 0
  NoTwoEqual [] = Unit {0}
  NoTwoEqual (x ∷ xs) = AllByRecursion (λ y. eq x y ≡ false) xs × NoTwoEqual xs

  distinct-filter : (p : E → Bool) (xs : List E) → NoTwoEqual xs → NoTwoEqual (filter p xs)
  distinct-filter p [] h = h
  distinct-filter p (x ∷ xs) h = by (p x) (distinct-filter p xs h.1)
    where
      by : (b : Bool) → NoTwoEqual (filter p xs) → NoTwoEqual (cond b (x ∷ filter p xs) (filter p xs))
      by true k = (all-filter (λ y. eq x y ≡ false) p xs h.0, k)
      by false k = k

  none-equal : (x : E) (xs : List E) → AllByRecursion (λ y. eq x y ≡ false) (others eq x xs)
  none-equal x [] = tt
  none-equal x (y ∷ ys) = by (eq x y) refl (none-equal x ys)
    where
      by : (b : Bool) → eq x y ≡ b → AllByRecursion (λ z. eq x z ≡ false) (others eq x ys) → AllByRecursion (λ z. eq x z ≡ false) (cond (not b) (y ∷ others eq x ys) (others eq x ys))
      by true e k = k
      by false e k = (e, k)

  pub are-distinct : (xs : List E) → NoTwoEqual (distinct eq xs)
  are-distinct [] = tt
  are-distinct (x ∷ xs) = (none-equal x (distinct eq xs), distinct-filter (λ z. not (eq x z)) (distinct eq xs) (are-distinct xs))

-- through a view that the equality sees alone
module _ {X E : Type 0} (v : X → E) (eq : E → E → Bool) where
  filter-map : (p : E → Bool) (xs : List X) → filter p (map v xs) ≡ map v (filter (λ x. p (v x)) xs)
  filter-map p [] = refl
  filter-map p (x ∷ xs) = by (p (v x)) (filter-map p xs)
    where
      by : (b : Bool) → filter p (map v xs) ≡ map v (filter (λ y. p (v y)) xs)
          → cond b (v x ∷ filter p (map v xs)) (filter p (map v xs)) ≡ map v (cond b (x ∷ filter (λ y. p (v y)) xs) (filter (λ y. p (v y)) xs))
      by true k = ap (λ t. v x ∷ t) k
      by false k = k

  pub distinct-map : (xs : List X) → distinct eq (map v xs) ≡ map v (distinct (λ a b. eq (v a) (v b)) xs)
  distinct-map [] = refl
  distinct-map (x ∷ xs) =
      ap (λ t. v x ∷ filter (λ z. not (eq (v x) z)) t) (distinct-map xs)
      ∙ ap (λ t. v x ∷ t) (filter-map (λ z. not (eq (v x) z)) (distinct (λ a b. eq (v a) (v b)) xs))

  -- each of a list without equal members stands at its own place
  module _ (laws : IsEquivalence eq) {Z : Type 0} (f : X → ℕ → Z) where
    shifted : (k : ℕ) (x : X) (xs ys : List X) → AllByRecursion (λ y. eq (v x) (v y) ≡ false) ys
        → map (λ y. f y (k + 1 + place eq (v y) (map v xs))) ys ≡ map (λ y. f y (k + place eq (v y) (v x ∷ map v xs))) ys
    shifted k x xs [] h = refl
    shifted k x xs (y ∷ ys) h =
        let apart : eq (v y) (v x) ≡ false = laws.symm (v y) (v x) ∙ h.0 in
        let n : ℕ = place eq (v y) (map v xs) in
        let same : k + 1 + n ≡ k + (1 + n) = omega arith in
        let there : k + 1 + n ≡ k + cond (not (eq (v y) (v x))) (1 + n) 0 = same ∙ ap (λ b. k + cond (not b) (1 + n) 0) (sym apart) in
        ap (λ m. f y m ∷ map (λ y. f y (k + 1 + place eq (v y) (map v xs))) ys) there
        ∙ ap (λ t. f y (k + cond (not (eq (v y) (v x))) (1 + n) 0) ∷ t) (shifted k x xs ys h.1)

    pub own-places : (k : ℕ) (xs : List X) → NoTwoEqual (λ a b. eq (v a) (v b)) xs
        → map (λ p. f p.1 p.0) (enumerate_from k xs) ≡ map (λ x. f x (k + place eq (v x) (map v xs))) xs
    own-places k [] h = refl
    own-places k (x ∷ xs) h =
        let first : k ≡ k + cond (not (eq (v x) (v x))) (1 + place eq (v x) (map v xs)) 0 =
        rw (laws.refl (v x)) (omega arith) in
        ap (λ n. f x n ∷ map (λ p. f p.1 p.0) (enumerate_from (k + 1) xs)) first
        ∙ ap (λ t. f x (k + cond (not (eq (v x) (v x))) (1 + place eq (v x) (map v xs)) 0) ∷ t) (own-places (k + 1) xs h.1 ∙ shifted k x xs xs h.0)
