-- Members by their keys, as they come in one after another.
use Rattle.std.proofs.Common.{◌≡◌, ℕ, Bool, true, false, cond, ◌||◌, List, [], ◌∷◌, ◌++◌, filter, map, refl, ap, ◌∙◌, sym, subst, append-nil, append_assoc}
use Rattle.std.specs.Cmp.{IsEquivalence}
use Rattle.std.specs.List.{flat_map}
use Rattle.std.specs.List.Sorted.{IsPermutation}
use Rattle.std.proofs.lemmas.List.{map-append}
use Rattle.std.proofs.lemmas.List.Elements.{filter-append}
use Rattle.std.proofs.lemmas.List.Sorted.{IsPermutation-refl, IsPermutation-trans, IsPermutation-append_comm, IsPermutation-append_left, IsPermutation-append_right}
use Rattle.driver_entries.specs.Entries.{distinct, is_in}
use Rattle.driver_entries.specs.Laws.{NoTwoEqual}
use Rattle.driver_entries.proofs.Once.{NoTwoEqual-distinct}
use Rattle.driver_entries.proofs.Distinct.{distinct-push, is_in-distinct, is_in-equal}

module _ {K : Type 0} (eq : K → K → Bool) where
  -- a number added to the class of its key, which comes last where there is none
  abbrev pub added : List (K × List ℕ) → K → ℕ → List (K × List ℕ)
  added [] key k = (key, k ∷ []) ∷ []
  added (b ∷ bs) key k = cond (eq key b.0) ((b.0, b.1 ++ k ∷ []) ∷ bs) (b ∷ added bs key k)

  -- all numbers of classes
  abbrev pub numbers : List (K × List ℕ) → List ℕ
  numbers bs = flat_map (λ b. b.1) bs

  pub numbers-added : (bs : List (K × List ℕ)) (key : K) (k : ℕ) → IsPermutation (numbers bs ++ k ∷ []) (numbers (added bs key k))
  numbers-added [] key k = IsPermutation-refl (k ∷ [])
  numbers-added (b ∷ bs) key k = by (eq key b.0) (numbers-added bs key k)
    where
      by : (c : Bool) → IsPermutation (numbers bs ++ k ∷ []) (numbers (added bs key k))
          → IsPermutation ((b.1 ++ numbers bs) ++ k ∷ []) (numbers (cond c ((b.0, b.1 ++ k ∷ []) ∷ bs) (b ∷ added bs key k)))
      by true h =
          subst (λ xs. IsPermutation xs ((b.1 ++ k ∷ []) ++ numbers bs)) (sym (append_assoc b.1 (numbers bs) (k ∷ [])))
          (subst (λ ys. IsPermutation (b.1 ++ (numbers bs ++ k ∷ [])) ys) (sym (append_assoc b.1 (k ∷ []) (numbers bs)))
          (IsPermutation-append_right b.1 (numbers bs ++ k ∷ []) (k ∷ numbers bs) (IsPermutation-append_comm (numbers bs) (k ∷ []))))
      by false h =
          subst (λ xs. IsPermutation xs (b.1 ++ numbers (added bs key k))) (sym (append_assoc b.1 (numbers bs) (k ∷ [])))
          (IsPermutation-append_right b.1 (numbers bs ++ k ∷ []) (numbers (added bs key k)) h)

  module _ (laws : IsEquivalence eq) {X : Type 0} (key : X → K) (number : X → ℕ) where
    abbrev pub members : List X → K → List ℕ
    members xs d = map number (filter (λ x. eq d (key x)) xs)

    abbrev pub class_of : List X → K → K × List ℕ
    class_of xs d = (d, members xs d)

    abbrev pub classes : List X → List (K × List ℕ)
    classes xs = map (class_of xs) (distinct eq (map key xs))

    module _ (xs : List X) (x : X) where
      members-hit : (d : K) → eq d (key x) ≡ true → members (xs ++ x ∷ []) d ≡ members xs d ++ number x ∷ []
      members-hit d e =
          ap (map number) (filter-append (λ y. eq d (key y)) xs (x ∷ [])) ∙ map-append number (filter (λ y. eq d (key y)) xs) (filter (λ y. eq d (key y)) (x ∷ []))
          ∙ ap (λ b. members xs d ++ map number (cond b (x ∷ []) [])) e

      members-miss : (d : K) → eq d (key x) ≡ false → members (xs ++ x ∷ []) d ≡ members xs d
      members-miss d e =
          ap (map number) (filter-append (λ y. eq d (key y)) xs (x ∷ [])) ∙ map-append number (filter (λ y. eq d (key y)) xs) (filter (λ y. eq d (key y)) (x ∷ []))
          ∙ ap (λ b. members xs d ++ map number (cond b (x ∷ []) [])) e ∙ append-nil (members xs d)

      unchanged : (ds : List K) → is_in eq (key x) ds ≡ false → map (class_of (xs ++ x ∷ [])) ds ≡ map (class_of xs) ds
      unchanged [] h = refl
      unchanged (d ∷ ds) h = by (eq (key x) d) refl h (unchanged ds)
        where
          by : (b : Bool) → eq (key x) d ≡ b → (b || is_in eq (key x) ds) ≡ false
              → (is_in eq (key x) ds ≡ false → map (class_of (xs ++ x ∷ [])) ds ≡ map (class_of xs) ds)
              → map (class_of (xs ++ x ∷ [])) (d ∷ ds) ≡ map (class_of xs) (d ∷ ds)
          by true e h k = cc
          by false e h k = λ i. (d, members-miss d (laws.symm d (key x) ∙ e) i) ∷ k h i

      -- of a key that is there
      old : (ds : List K) → NoTwoEqual eq ds → is_in eq (key x) ds ≡ true
          → map (class_of (xs ++ x ∷ [])) ds ≡ added (map (class_of xs) ds) (key x) (number x)
      old [] n h = cc
      old (d ∷ ds) n h = by (eq (key x) d) refl h (old ds n.1)
        where
          by : (b : Bool) → eq (key x) d ≡ b → (b || is_in eq (key x) ds) ≡ true
              → (is_in eq (key x) ds ≡ true → map (class_of (xs ++ x ∷ [])) ds ≡ added (map (class_of xs) ds) (key x) (number x))
              → map (class_of (xs ++ x ∷ [])) (d ∷ ds)
              ≡ cond b ((d, members xs d ++ number x ∷ []) ∷ map (class_of xs) ds) ((d, members xs d) ∷ added (map (class_of xs) ds) (key x) (number x))
          by true e h k =
              λ i. (d, members-hit d (laws.symm d (key x) ∙ e) i) ∷ unchanged ds (is_in-equal eq laws (key x) d ds e ∙ n.0) i
          by false e h k = λ i. (d, members-miss d (laws.symm d (key x) ∙ e) i) ∷ k h i

      -- of a new key
      new : (ds : List K) → members xs (key x) ≡ [] → is_in eq (key x) ds ≡ false
          → map (class_of (xs ++ x ∷ [])) (ds ++ key x ∷ []) ≡ added (map (class_of xs) ds) (key x) (number x)
      new [] none h = λ i. (key x, (members-hit (key x) (laws.refl (key x)) ∙ ap (λ ys. ys ++ number x ∷ []) none) i) ∷ []
      new (d ∷ ds) none h = by (eq (key x) d) refl h (new ds none)
        where
          by : (b : Bool) → eq (key x) d ≡ b → (b || is_in eq (key x) ds) ≡ false
              → (is_in eq (key x) ds ≡ false → map (class_of (xs ++ x ∷ [])) (ds ++ key x ∷ []) ≡ added (map (class_of xs) ds) (key x) (number x))
              → map (class_of (xs ++ x ∷ [])) (d ∷ (ds ++ key x ∷ []))
              ≡ cond b ((d, members xs d ++ number x ∷ []) ∷ map (class_of xs) ds) ((d, members xs d) ∷ added (map (class_of xs) ds) (key x) (number x))
          by true e h k = cc
          by false e h k = λ i. (d, members-miss d (laws.symm d (key x) ∙ e) i) ∷ k h i

    pub no-members : (d : K) (xs : List X) → is_in eq d (map key xs) ≡ false → members xs d ≡ []
    no-members d [] h = refl
    no-members d (x ∷ xs) h = by (eq d (key x)) h (no-members d xs)
      where
        by : (b : Bool) → (b || is_in eq d (map key xs)) ≡ false → (is_in eq d (map key xs) ≡ false → members xs d ≡ [])
            → map number (cond b (x ∷ filter (λ y. eq d (key y)) xs) (filter (λ y. eq d (key y)) xs)) ≡ []
        by true h k = cc
        by false h k = k h

    -- one more member
    pub classes-push : (xs : List X) (x : X) → classes (xs ++ x ∷ []) ≡ added (classes xs) (key x) (number x)
    classes-push xs x =
        ap (λ ds. map (class_of (xs ++ x ∷ [])) ds) (ap (distinct eq) (map-append key xs (x ∷ [])) ∙ distinct-push eq laws (map key xs) (key x))
        ∙ by (is_in eq (key x) (distinct eq (map key xs))) refl
      where
        by : (b : Bool) → is_in eq (key x) (distinct eq (map key xs)) ≡ b
            → map (class_of (xs ++ x ∷ [])) (cond b (distinct eq (map key xs)) (distinct eq (map key xs) ++ key x ∷ [])) ≡ added (classes xs) (key x) (number x)
        by true e = old xs x (distinct eq (map key xs)) (NoTwoEqual-distinct eq laws (map key xs)) e
        by false e = new xs x (distinct eq (map key xs)) (no-members (key x) xs (sym (is_in-distinct eq laws (key x) (map key xs)) ∙ e)) e

    -- the numbers of the classes are those of the members
    permuted-more : (xs ys : List X) → IsPermutation (map number xs) (numbers (classes xs)) → IsPermutation (map number (xs ++ ys)) (numbers (classes (xs ++ ys)))
    permuted-more xs [] h = subst (λ zs. IsPermutation (map number zs) (numbers (classes zs))) (sym (append-nil xs)) h
    permuted-more xs (y ∷ ys) h =
        subst (λ zs. IsPermutation (map number zs) (numbers (classes zs))) (append_assoc xs (y ∷ []) ys)
        (permuted-more (xs ++ y ∷ []) ys
        (subst (λ ns. IsPermutation ns (numbers (classes (xs ++ y ∷ [])))) (sym (map-append number xs (y ∷ [])))
        (subst (λ bs. IsPermutation (map number xs ++ number y ∷ []) (numbers bs)) (sym (classes-push xs y))
        (IsPermutation-trans (map number xs ++ number y ∷ []) (numbers (classes xs) ++ number y ∷ []) (numbers (added (classes xs) (key y) (number y)))
        (IsPermutation-append_left (number y ∷ []) (map number xs) (numbers (classes xs)) h) (numbers-added (classes xs) (key y) (number y))))))

    pub classes-permuted : (xs : List X) → IsPermutation (map number xs) (numbers (classes xs))
    classes-permuted xs = permuted-more [] xs (IsPermutation-refl [])
