-- Lists of which something is known; and steps from one to the next as long as a test holds.
use Rattle.std.proofs.Common.{◌≡◌, ℕ, zero, suc, ◌+◌, ◌-◌, ◌<◌, ◌≤◌, Bool, true, false, cond, Some, List, [], ◌∷◌, ◌++◌, length, get_or, take, filter, refl, ap, sym, subst, ◌∙◌, arith}
use Rattle.std.specs.Prelude.{All, AllPairs, slice_get}
use Rattle.std.specs.List.{AllAdjacentBelow, flat_map}
use Rattle.std.proofs.lemmas.List.Elements.{All-cons, All-filter, All-head, All-nil, All-tail, All-weaker, filter_passes}
use Rattle.std.proofs.lemmas.List.Kept.{AllPairs-cons}
use Rattle.std.proofs.lemmas.Option.{same_Some}

module _ {X : Type 0} (Q : X → Type 0) where
  pub all-left : (xs ys : List X) → All Q (xs ++ ys) → All Q xs
  all-left [] ys h = All-nil Q
  all-left (x ∷ xs) ys h = All-cons Q x xs (All-head Q x (xs ++ ys) h) (all-left xs ys (All-tail Q x (xs ++ ys) h))

  pub all-right : (xs ys : List X) → All Q (xs ++ ys) → All Q ys
  all-right [] ys h = h
  all-right (x ∷ xs) ys h = all-right xs ys (All-tail Q x (xs ++ ys) h)

  -- those that pass a test pass it besides
  pub all-passed : (q : X → Bool) (xs : List X) → All Q xs → All (λ x. Q x × (q x ≡ true)) (filter q xs)
  all-passed q xs h = λ k d w. (All-filter q Q xs h k d w, filter_passes q xs k d w)

  pub all-at : (xs : List X) (k : ℕ) (x : X) → All Q xs → slice_get xs k ≡ Some x → Q x
  all-at [] k x h e = cc
  all-at (y ∷ ys) zero x h e = subst Q (same_Some y x e) (All-head Q y ys h)
  all-at (y ∷ ys) (suc k) x h e = all-at ys k x (All-tail Q y ys h) e

  pub all-row : {C : Type 0} (f : C → List X) (cs : List C) (k : ℕ) (c : C) → All Q (flat_map f cs) → slice_get cs k ≡ Some c → All Q (f c)
  all-row f [] k c h e = cc
  all-row f (d ∷ ds) zero c h e = subst (λ c. All Q (f c)) (same_Some d c e) (all-left (f d) (flat_map f ds) h)
  all-row f (d ∷ ds) (suc k) c h e = all-row f ds k c (all-right (f d) (flat_map f ds) h) e

module _ {X : Type 0} (R : X → X → Type 0) where
  abbrev Neighbours : List X → Type 0
  Neighbours xs = AllAdjacentBelow R xs (length xs)

  one-alone : (x : X) → Neighbours (x ∷ [])
  one-alone x = λ k d w. absurd (omega (arith, w))

  one-before : (x y : X) (ys : List X) → R x y → Neighbours (y ∷ ys) → Neighbours (x ∷ y ∷ ys)
  one-before x y ys r h zero d w = r
  one-before x y ys r h (suc k) d w =
      let within : k + 1 < length (y ∷ ys) = omega (arith, w) in
      let same : suc (k + 1) ≡ suc k + 1 = omega arith in
      subst (λ j. R (get_or (y ∷ ys) k d) (get_or (x ∷ y ∷ ys) j d)) same (h k d within)

-- the last of a list, and those before it
abbrev pub final : {X : Type 0} → List X → X → X
final xs d = get_or xs (length xs - 1) d

abbrev pub done : {X : Type 0} → List X → List X
done xs = take (length xs - 1) xs

module _ {X : Type 0} (x y : X) (ys : List X) where
  longer : length (x ∷ y ∷ ys) - 1 ≡ suc (length ys)
  longer = omega arith

  long : length (y ∷ ys) - 1 ≡ length ys
  long = omega arith

  final-cons : (d : X) → final (x ∷ y ∷ ys) d ≡ final (y ∷ ys) d
  final-cons d = ap (λ k. get_or (x ∷ y ∷ ys) k d) longer ∙ ap (λ k. get_or (y ∷ ys) k d) (sym long)

  done-cons : done (x ∷ y ∷ ys) ≡ x ∷ done (y ∷ ys)
  done-cons = ap (λ k. take k (x ∷ y ∷ ys)) longer ∙ ap (λ k. x ∷ take k (y ∷ ys)) (sym long)

module _ {X : Type 0} (goes : X → Bool) (next : X → X) where
  -- so many steps at most
  abbrev pub run : ℕ → X → List X
  run zero x = x ∷ []
  run (suc n) x = cond (goes x) (x ∷ run n (next x)) (x ∷ [])

  abbrev behind : ℕ → X → List X
  behind zero x = []
  behind (suc n) x = cond (goes x) (run n (next x)) []

  begins : (n : ℕ) (x : X) → run n x ≡ x ∷ behind n x
  begins zero x = refl
  begins (suc n) x = by (goes x)
    where
      by : (b : Bool) → cond b (x ∷ run n (next x)) (x ∷ []) ≡ x ∷ cond b (run n (next x)) []
      by true = refl
      by false = refl

  module _ (I : X → Type 0) (keep : (x : X) → I x → goes x ≡ true → I (next x)) where
    pub run-all : (n : ℕ) (x : X) → I x → All I (run n x)
    run-all zero x i = All-cons I x [] i (All-nil I)
    run-all (suc n) x i = by (goes x) refl (λ e. run-all n (next x) (keep x i e))
      where
        by : (b : Bool) → goes x ≡ b → (goes x ≡ true → All I (run n (next x))) → All I (cond b (x ∷ run n (next x)) (x ∷ []))
        by true e more = All-cons I x (run n (next x)) i (more e)
        by false e more = All-cons I x [] i (All-nil I)

    module _ (R : X → X → Type 0) where
      pub run-neighbours : ((x : X) → I x → goes x ≡ true → R x (next x)) → (n : ℕ) (x : X) → I x → Neighbours R (run n x)
      run-neighbours step zero x i = one-alone R x
      run-neighbours step (suc n) x i = by (goes x) refl (λ e. run-neighbours step n (next x) (keep x i e))
        where
          by : (b : Bool) → goes x ≡ b → (goes x ≡ true → Neighbours R (run n (next x))) → Neighbours R (cond b (x ∷ run n (next x)) (x ∷ []))
          by true e more =
              subst (λ us. Neighbours R (x ∷ us)) (sym (begins n (next x)))
              (one-before R x (next x) (behind n (next x)) (step x i e) (subst (Neighbours R) (begins n (next x)) (more e)))
          by false e more = one-alone R x

      module _ (same : (x : X) → R x x) (onwards : (x y : X) → I x → goes x ≡ true → R (next x) y → R x y) where
        run-later : (n : ℕ) (x : X) → I x → All (R x) (run n x)
        run-later zero x i = All-cons (R x) x [] (same x) (All-nil (R x))
        run-later (suc n) x i = by (goes x) refl (λ e. run-later n (next x) (keep x i e))
          where
            by : (b : Bool) → goes x ≡ b → (goes x ≡ true → All (R (next x)) (run n (next x))) → All (R x) (cond b (x ∷ run n (next x)) (x ∷ []))
            by true e more = All-cons (R x) x (run n (next x)) (same x) (All-weaker (R (next x)) (R x) (λ y h. onwards x y i e h) (run n (next x)) (more e))
            by false e more = All-cons (R x) x [] (same x) (All-nil (R x))

        pub run-pairs : (n : ℕ) (x : X) → I x → AllPairs R (run n x)
        run-pairs zero x i = AllPairs-cons R x [] (All-nil (R x)) (λ j k d below within. absurd (omega (arith, within)))
        run-pairs (suc n) x i = by (goes x) refl (λ e. run-pairs n (next x) (keep x i e))
          where
            by : (b : Bool) → goes x ≡ b → (goes x ≡ true → AllPairs R (run n (next x))) → AllPairs R (cond b (x ∷ run n (next x)) (x ∷ []))
            by true e more =
                AllPairs-cons R x (run n (next x)) (All-weaker (R (next x)) (R x) (λ y h. onwards x y i e h) (run n (next x)) (run-later n (next x) (keep x i e))) (more e)
            by false e more = AllPairs-cons R x [] (All-nil (R x)) (λ j k d below within. absurd (omega (arith, within)))

  pub run-within : (n : ℕ) (x : X) → length (run n x) ≤ n + 1
  run-within zero x = omega arith
  run-within (suc n) x = by (goes x) (run-within n (next x))
    where
      by : (b : Bool) → length (run n (next x)) ≤ n + 1 → length (cond b (x ∷ run n (next x)) (x ∷ [])) ≤ suc n + 1
      by true h = omega (arith, h)
      by false h = omega (arith, h)

  -- what a step keeps where something holds of what it steps from
  module _ (B I : X → Type 0) (keep : (x : X) → I x → B x → goes x ≡ true → I (next x)) (d : X) where
    pub run-last : (n : ℕ) (x : X) → I x → All B (done (run n x)) → I (final (run n x) d)
    run-last zero x i h = i
    run-last (suc n) x i h = by (goes x) refl h (λ j g. run-last n (next x) j g)
      where
        us : List X
        us = next x ∷ behind n (next x)

        by : (b : Bool) → goes x ≡ b → All B (done (cond b (x ∷ run n (next x)) (x ∷ []))) → (I (next x) → All B (done (run n (next x))) → I (final (run n (next x)) d))
            → I (final (cond b (x ∷ run n (next x)) (x ∷ [])) d)
        by true e h more =
            let both : All B (x ∷ done us) = subst (All B) (ap (λ ys. done (x ∷ ys)) (begins n (next x)) ∙ done-cons x (next x) (behind n (next x))) h in
            let later : All B (done (run n (next x))) = subst (λ ys. All B (done ys)) (sym (begins n (next x))) (All-tail B x (done us) both) in
            let same : final (run n (next x)) d ≡ final (x ∷ run n (next x)) d =
            ap (λ ys. final ys d) (begins n (next x)) ∙ sym (final-cons x (next x) (behind n (next x)) d) ∙ ap (λ ys. final (x ∷ ys) d) (sym (begins n (next x))) in
            subst I same (more (keep x i (All-head B x (done us) both) e) later)
        by false e h more = i

  -- where there were fewer steps than there might have been, the last doesn't go on
  pub run-ends : (d : X) (n : ℕ) (x : X) → length (run n x) - 1 < n → goes (final (run n x) d) ≡ false
  run-ends d zero x h = absurd (omega (arith, h))
  run-ends d (suc n) x h = by (goes x) refl h (run-ends d n (next x))
    where
      by : (b : Bool) → goes x ≡ b → length (cond b (x ∷ run n (next x)) (x ∷ [])) - 1 < suc n → (length (run n (next x)) - 1 < n → goes (final (run n (next x)) d) ≡ false)
          → goes (final (cond b (x ∷ run n (next x)) (x ∷ [])) d) ≡ false
      by true e h more =
          let few : length (next x ∷ behind n (next x)) < suc n = subst (λ ys. length ys < suc n) (begins n (next x)) (omega (arith, h)) in
          let fewer : length (run n (next x)) - 1 < n = subst (λ ys. length ys - 1 < n) (sym (begins n (next x))) (omega (arith, few)) in
          let same : final (run n (next x)) d ≡ final (x ∷ run n (next x)) d =
          ap (λ ys. final ys d) (begins n (next x)) ∙ sym (final-cons x (next x) (behind n (next x)) d) ∙ ap (λ ys. final (x ∷ ys) d) (sym (begins n (next x))) in
          subst (λ y. goes y ≡ false) same (more fewer)
      by false e h more = e

  -- where each step raises a number that has a bound, they come to an end
  module _ (I : X → Type 0) (keep : (x : X) → I x → goes x ≡ true → I (next x)) (height : X → ℕ) (bound : ℕ) (rises : (x : X) → I x → goes x ≡ true → height x < height (next x))
      (most : (x : X) → I x → height x ≤ bound) where
    pub run-bounded : (d : X) (n : ℕ) (x : X) → I x → bound ≤ n + height x → goes (final (run n x) d) ≡ false
    run-bounded d zero x i h = by (goes x) refl
      where
        by : (b : Bool) → goes x ≡ b → b ≡ false
        by true e =
            let higher : height x < height (next x) = rises x i e in
            let within : height (next x) ≤ bound = most (next x) (keep x i e) in
            absurd (omega (arith, h, higher, within))
        by false e = refl
    run-bounded d (suc n) x i h = by (goes x) refl (λ j g. run-bounded d n (next x) j g)
      where
        by : (b : Bool) → goes x ≡ b → (I (next x) → bound ≤ n + height (next x) → goes (final (run n (next x)) d) ≡ false)
            → goes (final (cond b (x ∷ run n (next x)) (x ∷ [])) d) ≡ false
        by true e more =
            let higher : height x < height (next x) = rises x i e in
            let reached : bound ≤ n + height (next x) = omega (arith, h, higher) in
            let same : final (run n (next x)) d ≡ final (x ∷ run n (next x)) d =
            ap (λ ys. final ys d) (begins n (next x)) ∙ sym (final-cons x (next x) (behind n (next x)) d) ∙ ap (λ ys. final (x ∷ ys) d) (sym (begins n (next x))) in
            subst (λ y. goes y ≡ false) same (more (keep x i e) reached)
        by false e more = e
