-- Tests of some member of a list.
use mathlib.Core.Bool.{or-false}
use Rattle.std.proofs.Common.{◌≡◌, ◌≢◌, ℕ, ◌+◌, ◌<◌, ◌≤◌, zero, suc, Bool, true, false, cond, ◌&&◌, ◌||◌, List, [], ◌∷◌, map, refl, ap, sym, ◌∙◌, arith}
use Rattle.std.specs.Prelude.{filter, nat_eq}
use Rattle.std.specs.List.{flat_map, list_any, range_with_len}
use Rattle.std.proofs.lemmas.Bool.{eqb-false, eqb-true, ne_eqb}
use Rattle.std.proofs.lemmas.List.Folds.{list_any-append}

pub and-assoc : (a b c : Bool) → ((a && b) && c) ≡ (a && (b && c))
and-assoc true b c = refl
and-assoc false b c = refl

pub and-false : (a : Bool) → (a && false) ≡ false
and-false true = refl
and-false false = refl

pub and-yes : (a : Bool) → (a && true) ≡ a
and-yes true = refl
and-yes false = refl

module _ {X : Type 0} where
  pub any-same : (p q : X → Bool) → ((x : X) → p x ≡ q x) → (xs : List X) → list_any p xs ≡ list_any q xs
  any-same p q h [] = refl
  any-same p q h (x ∷ xs) = λ i. h x i || any-same p q h xs i

  pub any-filter : (p q : X → Bool) (xs : List X) → list_any p (filter q xs) ≡ list_any (λ x. q x && p x) xs
  any-filter p q [] = refl
  any-filter p q (x ∷ xs) = by (q x) (any-filter p q xs)
    where
      by : (b : Bool) → list_any p (filter q xs) ≡ list_any (λ y. q y && p y) xs
          → list_any p (cond b (x ∷ filter q xs) (filter q xs)) ≡ ((b && p x) || list_any (λ y. q y && p y) xs)
      by true rest = ap (λ c. p x || c) rest
      by false rest = rest

  pub any-flat_map : {Y : Type 0} (p : X → Bool) (f : Y → List X) (ys : List Y) → list_any p (flat_map f ys) ≡ list_any (λ y. list_any p (f y)) ys
  any-flat_map p f [] = refl
  any-flat_map p f (y ∷ ys) = list_any-append p (f y) (flat_map f ys) ∙ ap (λ c. list_any p (f y) || c) (any-flat_map p f ys)

-- of numbers in a range, none passes
pub nowhere : (p : ℕ → Bool) (a n : ℕ) → ((j : ℕ) → a ≤ j → j < a + n → p j ≡ false) → list_any p (range_with_len a n) ≡ false
nowhere p a zero h = refl
nowhere p a (suc n) h = λ i. h a (omega arith) (omega arith) i || nowhere p (a + 1) n (λ j l u. h j (omega arith) (omega arith)) i

-- no other than i does
pub only-at : (p : ℕ → Bool) (i a n : ℕ) → a ≤ i → i < a + n → ((j : ℕ) → a ≤ j → j < a + n → nat_eq i j ≡ false → p j ≡ false)
    → list_any p (range_with_len a n) ≡ p i
only-at p i a zero l u h = absurd (omega arith)
only-at p i a (suc n) l u h = by (nat_eq i a) refl (λ k. only-at p i (a + 1) n k (omega arith) (λ j v m f. h j (omega arith) (omega arith) f))
  where
    by : (b : Bool) → nat_eq i a ≡ b → (a + 1 ≤ i → list_any p (range_with_len (a + 1) n) ≡ p i) → (p a || list_any p (range_with_len (a + 1) n)) ≡ p i
    by true e rest =
        let same : i ≡ a = eqb-true i a e in
        ap (λ c. p a || c) (nowhere p (a + 1) n (λ j k m. h j (omega arith) (omega arith) (apart same j k))) ∙ or-false (p a) ∙ ap p (sym same)
      where
        apart : i ≡ a → (j : ℕ) → a + 1 ≤ j → nat_eq i j ≡ false
        apart same j k = ne_eqb i j (λ e. omega (arith, e, same))
    by false e rest =
        let off : p a ≡ false = h a (omega arith) (omega arith) e in
        ap (λ c. c || list_any p (range_with_len (a + 1) n)) off ∙ rest (after e)
      where
        after : nat_eq i a ≡ false → a + 1 ≤ i
        after e = let ne : i ≢ a = eqb-false i a e in omega (arith, ne)
