-- Tests of places.
use Rattle.std.proofs.Common.{◌≡◌, ℕ, zero, suc, ◌+◌, ◌-◌, ◌<◌, ◌≤◌, ◌⊎◌, inl, inr, Bool, true, false, ◌||◌, nat_le, nat_lt, refl, ap, sym, ◌∙◌, true≢false, arith}
use Rattle.std.specs.List.{list_all, list_any, range_with_len}
use Rattle.std.proofs.lemmas.Bool.Decides.{nat_tests}
use Rattle.std.proofs.lemmas.Bool.{and_parts, and_from}
use Rattle.list_lemmas.specs.Places.{places}

pub same_test : (a b : Bool) → (a ≡ true → b ≡ true) → (b ≡ true → a ≡ true) → a ≡ b
same_test true b f g = sym (f refl)
same_test false true f g = g refl
same_test false false f g = refl

-- a test that cannot pass
pub fails : (a : Bool) → (a ≡ true → ⊥) → a ≡ false
fails true h = absurd (h refl)
fails false h = refl

pub clash : (a : Bool) → a ≡ true → a ≡ false → ⊥
clash a p q = true≢false (sym p ∙ q)

pub or-second : (a b : Bool) → a ≡ false → a || b ≡ true → b ≡ true
or-second a b e h = ap (λ x. x || b) (sym e) ∙ h

pub le-true : (a b : ℕ) → a ≤ b → nat_le a b ≡ true
le-true a b h = grind (arith, nat_tests)

pub true-le : (a b : ℕ) → nat_le a b ≡ true → a ≤ b
true-le a b h = grind (arith, nat_tests)

pub behind-first : (k : ℕ) → nat_lt 0 (suc k) ≡ true
behind-first k = grind (arith, nat_tests)

pub one-less : (k : ℕ) → suc k - 1 ≡ k
one-less k = omega arith

first-or : (a k : ℕ) → a ≤ k → (k ≡ a) ⊎ (a + 1 ≤ k)
first-or a k h = grind arith

module _ (p : ℕ → Bool) where
  all-of : (a n k : ℕ) → list_all p (range_with_len a n) ≡ true → a ≤ k → k < a + n → p k ≡ true
  all-of a zero k h u v = absurd (omega arith)
  all-of a (suc n) k h u v =
      elim (first-or a k u) [ inl e ↦ ap p e ∙ (and_parts _ _ h).0 | inr w ↦ all-of (a + 1) n k (and_parts _ _ h).1 w (omega arith) ]

  of-all : (a n : ℕ) → ((k : ℕ) → a ≤ k → k < a + n → p k ≡ true) → list_all p (range_with_len a n) ≡ true
  of-all a zero h = refl
  of-all a (suc n) h = and_from _ _ (h a (omega arith) (omega arith)) (of-all (a + 1) n (λ k u v. h k (omega arith) (omega arith)))

  any-of : (a n : ℕ) → list_any p (range_with_len a n) ≡ true → (k : ℕ) × (a ≤ k) × (k < a + n) × (p k ≡ true)
  any-of a zero h = absurd (true≢false (sym h))
  any-of a (suc n) h = by (p a) refl h (any-of (a + 1) n)
    where
      by : (b : Bool) → p a ≡ b → b || list_any p (range_with_len (a + 1) n) ≡ true
          → (list_any p (range_with_len (a + 1) n) ≡ true → (k : ℕ) × (a + 1 ≤ k) × (k < a + 1 + n) × (p k ≡ true)) → (k : ℕ) × (a ≤ k) × (k < a + suc n) × (p k ≡ true)
      by true e h more = (a, omega arith, omega arith, e)
      by false e h more = let r = more h in (r.0, omega arith, omega arith, r.3)

  of-any : (a n k : ℕ) → a ≤ k → k < a + n → p k ≡ true → list_any p (range_with_len a n) ≡ true
  of-any a zero k u v h = absurd (omega arith)
  of-any a (suc n) k u v h =
      elim (first-or a k u) [ inl w ↦ now (p a) (list_any p (range_with_len (a + 1) n)) (ap p (sym w) ∙ h) | inr w ↦ later (p a) _ (of-any (a + 1) n k w (omega arith) h) ]
    where
      now : (b c : Bool) → b ≡ true → b || c ≡ true
      now b c e = rw e

      later : (b c : Bool) → c ≡ true → b || c ≡ true
      later true c e = refl
      later false c e = e

  -- at each place, and at some
  pub each : (a b k : ℕ) → list_all p (places a b) ≡ true → a ≤ k → k < b → p k ≡ true
  each a b k h u v = all-of a (b - a) k h u (omega arith)

  pub of-each : (a b : ℕ) → ((k : ℕ) → a ≤ k → k < b → p k ≡ true) → list_all p (places a b) ≡ true
  of-each a b h = of-all a (b - a) (λ k u v. h k u (omega arith))

  pub some : (a b : ℕ) → list_any p (places a b) ≡ true → (k : ℕ) × (a ≤ k) × (k < b) × (p k ≡ true)
  some a b h = let r = any-of a (b - a) h in (r.0, r.1, omega arith, r.3)

  pub of-some : (a b k : ℕ) → a ≤ k → k < b → p k ≡ true → list_any p (places a b) ≡ true
  of-some a b k u v h = of-any a (b - a) k u (omega arith) h
