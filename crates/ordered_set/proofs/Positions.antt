-- The index of the first member that passes a test, as a list grows.
use Rattle.std.proofs.Common.{◌≡◌, ℕ, ◌+◌, ◌||◌, Bool, true, false, cond, not, List, [], ◌∷◌, ◌++◌, length, Some, None, refl, ap, sym, ◌∙◌, arith}
use Rattle.std.specs.Prelude.{is_some}
use Rattle.std.specs.List.{list_any, position, position_from, position_or_len}
use Rattle.std.specs.Option.{option_or}
use Rattle.std.proofs.lemmas.Iterator.Adapters.{position_from-zero}

module _ {A : Type 0} (p : A → Bool) where
  from-more : (i : ℕ) (xs : List A) (x : A) → position_from p i (xs ++ x ∷ []) ≡ option_or (position_from p i xs) (cond (p x) (Some (i + length xs)) None)
  from-more i [] x = ap (λ n. cond (p x) (Some n) None) (omega arith)
  from-more i (y ∷ ys) x = by (p y) (from-more (i + 1) ys x ∙ ap (λ n. option_or (position_from p (i + 1) ys) (cond (p x) (Some n) None)) (omega arith))
    where
      by : (b : Bool) → position_from p (i + 1) (ys ++ x ∷ []) ≡ option_or (position_from p (i + 1) ys) (cond (p x) (Some (i + length (y ∷ ys))) None)
          → cond b (Some i) (position_from p (i + 1) (ys ++ x ∷ []))
          ≡ option_or (cond b (Some i) (position_from p (i + 1) ys)) (cond (p x) (Some (i + length (y ∷ ys))) None)
      by true e = refl
      by false e = e

  pub position-more : (xs : List A) (x : A) → position p (xs ++ x ∷ []) ≡ option_or (position p xs) (cond (p x) (Some (length xs)) None)
  position-more xs x =
      position_from-zero p (xs ++ x ∷ []) ∙ from-more 0 xs x
      ∙ ap (λ n. option_or (position_from p 0 xs) (cond (p x) (Some n) None)) (omega arith)
      ∙ ap (λ o. option_or o (cond (p x) (Some (length xs)) None)) (sym (position_from-zero p xs))

  any-from : (i : ℕ) (xs : List A) → list_any p xs ≡ is_some (position_from p i xs)
  any-from i [] = refl
  any-from i (x ∷ xs) = by (p x) (any-from (i + 1) xs)
    where
      by : (b : Bool) → list_any p xs ≡ is_some (position_from p (i + 1) xs)
          → (b || list_any p xs) ≡ is_some (cond b (Some i) (position_from p (i + 1) xs))
      by true e = refl
      by false e = e

  pub any-found : (xs : List A) → list_any p xs ≡ is_some (position p xs)
  any-found xs = any-from 0 xs ∙ ap is_some (sym (position_from-zero p xs))

  length-none : (xs : List A) → list_any p xs ≡ false → length xs ≡ position_or_len p xs
  length-none [] h = refl
  length-none (x ∷ xs) h = by (p x) h (length-none xs)
    where
      by : (b : Bool) → (b || list_any p xs) ≡ false → (list_any p xs ≡ false → length xs ≡ position_or_len p xs)
          → length (x ∷ xs) ≡ cond (not b) (1 + position_or_len p xs) 0
      by true e k = cc
      by false e k = omega (arith, k e)

  pub position-none : (xs : List A) → position p xs ≡ None → length xs ≡ position_or_len p xs
  position-none xs h = length-none xs (any-found xs ∙ ap is_some h)
