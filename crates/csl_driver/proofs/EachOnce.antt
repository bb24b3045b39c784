-- Two lists that have the same members, each once, are alike but for their order.
use Rattle.std.proofs.Common.{◌≡◌, ℕ, suc, ◌+◌, Bool, true, false, cond, not, ◌||◌, List, [], ◌∷◌, ◌++◌, filter, map, refl, ap, sym, subst, ◌∙◌, true≢false, arith}
use Rattle.std.specs.Prelude.{slice_index}
use Rattle.std.specs.Cmp.{IsEquivalence}
use Rattle.std.specs.List.{position_or_len}
use Rattle.std.specs.List.Sorted.{IsPermutation}
use Rattle.std.proofs.lemmas.List.Sorted.{IsPermutation-cons, IsPermutation-filter_both, IsPermutation-map, IsPermutation-refl, IsPermutation-sym, IsPermutation-trans}
use Rattle.driver_entries.specs.Entries.{is_in, number, place}
use Rattle.driver_entries.specs.Laws.{NoTwoEqual}
use Rattle.driver_entries.proofs.Distinct.{is_in-equal, is_in-others, others}
use Rattle.driver_entries.proofs.Once.{NoTwoEqual-filter}

or-true : (a : Bool) → a ≡ true → (b : Bool) → (a || b) ≡ true
or-true true h b = refl
or-true false h b = absurd (true≢false (sym h))

module _ {E : Type 0} (eq : E → E → Bool) (laws : IsEquivalence eq) where
  -- none is equal to y
  filter-none : (y : E) (xs : List E) → is_in eq y xs ≡ false → filter (eq y) xs ≡ []
  filter-none y [] h = refl
  filter-none y (x ∷ xs) h = by (eq y x) h (filter-none y xs)
    where
      by : (b : Bool) → (b || is_in eq y xs) ≡ false → (is_in eq y xs ≡ false → filter (eq y) xs ≡ []) → cond b (x ∷ filter (eq y) xs) (filter (eq y) xs) ≡ []
      by true h more = absurd (true≢false h)
      by false h more = more h

  -- the one that is
  record IsTheOne (y : E) (xs : List E) : Type 0 where
    pub one : E
    pub equal : eq y one ≡ true
    pub alone : filter (eq y) xs ≡ one ∷ []

  the-one : (y : E) (xs : List E) → NoTwoEqual eq xs → is_in eq y xs ≡ true → IsTheOne y xs
  the-one y [] once h = absurd (true≢false (sym h))
  the-one y (x ∷ xs) once h = by (eq y x) refl h (the-one y xs once.1)
    where
      by : (b : Bool) → eq y x ≡ b → (b || is_in eq y xs) ≡ true → (is_in eq y xs ≡ true → IsTheOne y xs) → IsTheOne y (x ∷ xs)
      by true e h more = record {
        one = x;
        equal = e;
        alone = ap (λ b. cond b (x ∷ filter (eq y) xs) (filter (eq y) xs)) e ∙ ap (λ l. x ∷ l) (filter-none y xs (is_in-equal eq laws y x xs e ∙ once.0));
      }
      by false e h more =
          let it = more h in
          record { one = it.one; equal = it.equal; alone = ap (λ b. cond b (x ∷ filter (eq y) xs) (filter (eq y) xs)) e ∙ it.alone }

  others-lack : (y e : E) (xs : List E) → eq e y ≡ true → is_in eq e (others eq y xs) ≡ false
  others-lack y e [] h = refl
  others-lack y e (x ∷ xs) h = by (eq y x) refl (others-lack y e xs h)
    where
      by : (b : Bool) → eq y x ≡ b → is_in eq e (others eq y xs) ≡ false → is_in eq e (cond (not b) (x ∷ others eq y xs) (others eq y xs)) ≡ false
      by true f more = more
      by false f more = ap (λ b. b || is_in eq e (others eq y xs)) (laws.congr e y x h ∙ f) ∙ more

  -- what is left of both lists without y
  same-left : (y : E) (ys xs : List E) → is_in eq y ys ≡ false → ((e : E) → is_in eq e (y ∷ ys) ≡ is_in eq e xs) → (e : E) → is_in eq e ys ≡ is_in eq e (others eq y xs)
  same-left y ys xs apart same e = by (eq e y) refl
    where
      by : (b : Bool) → eq e y ≡ b → is_in eq e ys ≡ is_in eq e (others eq y xs)
      by true h = is_in-equal eq laws e y ys h ∙ apart ∙ sym (others-lack y e xs h)
      by false h = ap (λ b. b || is_in eq e ys) (sym h) ∙ same e ∙ sym (is_in-others eq laws y e xs h)

  module _ {X : Type 0} (f : E → X) (alike : (x y : E) → eq x y ≡ true → f x ≡ f y) where
    pub permuted : (ys xs : List E) → NoTwoEqual eq ys → NoTwoEqual eq xs → ((e : E) → is_in eq e ys ≡ is_in eq e xs) → IsPermutation (map f ys) (map f xs)
    permuted [] [] h g same = IsPermutation-refl []
    permuted [] (x ∷ xs) h g same = absurd (true≢false (sym (or-true (eq x x) (laws.refl x) (is_in eq x xs)) ∙ sym (same x)))
    permuted (y ∷ ys) xs h g same =
        let it = the-one y xs g (sym (same y) ∙ or-true (eq y y) (laws.refl y) (is_in eq y ys)) in
        let rest : List E = others eq y xs in
        let split : IsPermutation xs (it.one ∷ rest) =
        subst (λ l. IsPermutation xs (l ++ rest)) it.alone (IsPermutation-filter_both (eq y) (λ z. not (eq y z)) (λ z. refl) xs) in
        let left : IsPermutation (map f ys) (map f rest) =
        permuted ys rest h.1 (NoTwoEqual-filter eq laws (λ z. not (eq y z)) xs g) (same-left y ys xs h.0 same) in
        let first : f it.one ≡ f y = sym (alike y it.one it.equal) in
        IsPermutation-trans (f y ∷ map f ys) (f y ∷ map f rest) (map f xs)
        (IsPermutation-cons (f y) (map f ys) (map f rest) left)
        (IsPermutation-sym (map f xs) (f y ∷ map f rest)
        (subst (λ z. IsPermutation (map f xs) (z ∷ map f rest)) first (IsPermutation-map f xs (it.one ∷ rest) split)))

  -- equal entries have one number
  pub number-alike : (offset : ℕ) (es : List E) (x y : E) → eq x y ≡ true → number eq offset es x ≡ number eq offset es y
  number-alike offset es x y h = λ i. offset + position_or_len (λ z. laws.congr x y z h i) es

  module _ (f : E → ℕ) (alike : (x y : E) → eq x y ≡ true → f x ≡ f y) where
    -- at the place of an entry stands what f gives for it
    pub at-place : (e : E) (xs : List E) → is_in eq e xs ≡ true → slice_index (map f xs) (place eq e xs) ≡ f e
    at-place e [] h = absurd (true≢false (sym h))
    at-place e (x ∷ xs) h = by (eq e x) refl h (at-place e xs)
      where
        by : (b : Bool) → eq e x ≡ b → (b || is_in eq e xs) ≡ true → (is_in eq e xs ≡ true → slice_index (map f xs) (place eq e xs) ≡ f e) → slice_index (map f (x ∷ xs)) (place eq e (x ∷ xs)) ≡ f e
        by true same h more = rw same (sym (alike e x same))
        by false same h more =
            let up : 1 + place eq e xs ≡ suc (place eq e xs) = omega arith in
            rw same (ap (slice_index (f x ∷ map f xs)) up ∙ more h)
