-- The first element that passes, by its place, and along a walk.
use Rattle.std.proofs.Common.{◌≡◌, ℕ, suc, ◌<◌, ◌≤◌, List, [], ◌∷◌, length, map, drop, get_or, cond, Bool, true, false, Option, Some, None, option_map, option_and_then, find, drop-cons, refl, sym, ap, ◌∙◌, arith}
use Rattle.std.specs.Prelude.{slice_get}
use Rattle.std.proofs.lemmas.List.{drop_all}
use Rattle.value_sources.specs.Found.{first_at}

abbrev or_zero : Option ℕ → ℕ
or_zero None = 0
or_zero (Some n) = n

next_within : (i n : ℕ) (o : Option ℕ) → ((k : ℕ) → o ≡ Some k → k < n) → option_map (λ i. suc i) o ≡ Some i → i < suc n
next_within i n None h q = cc
next_within i n (Some k) h q = omega (arith, h k refl, ap or_zero q)

module _ {A : Type 0} (test : A → Bool) where
  next_read : (x : A) (xs : List A) (o : Option ℕ) → option_and_then (slice_get xs) o ≡ option_and_then (slice_get (x ∷ xs)) (option_map (λ i. suc i) o)
  next_read x xs None = refl
  next_read x xs (Some i) = refl

  -- the first that passes stands at the first place
  pub find-place : (xs : List A) → find test xs ≡ option_and_then (slice_get xs) (first_at test xs)
  find-place [] = refl
  find-place (x ∷ xs) =
      let by : (b : Bool) → cond b (Some x) (find test xs) ≡ option_and_then (slice_get (x ∷ xs)) (cond b (Some 0) (option_map (λ i. suc i) (first_at test xs))) = λ b.
      elim b as (λ b. cond b (Some x) (find test xs) ≡ option_and_then (slice_get (x ∷ xs)) (cond b (Some 0) (option_map (λ i. suc i) (first_at test xs)))) [
        | true ↦ refl
        | false ↦ find-place xs ∙ next_read x xs (first_at test xs)
      ] in
      by (test x)

  -- and each such place is one of the list
  pub place_within : (xs : List A) (i : ℕ) → first_at test xs ≡ Some i → i < length xs
  place_within [] i e = cc
  place_within (x ∷ xs) i e =
      let by : (b : Bool) → cond b (Some 0) (option_map (λ i. suc i) (first_at test xs)) ≡ Some i → i < suc (length xs) = λ b.
      elim b as (λ b. cond b (Some 0) (option_map (λ i. suc i) (first_at test xs)) ≡ Some i → i < suc (length xs)) [
        | true ↦ λ q. omega (arith, ap or_zero q)
        | false ↦ λ q. next_within i (length xs) (first_at test xs) (place_within xs) q
      ] in
      by (test x) e

module _ {A B : Type 0} (f : A → B) (test : B → Bool) (xs : List A) (i : ℕ) where
  -- what passes here is the first from here on
  pub find-here : (x : A) → i < length xs → x ≡ get_or xs i x → test (f x) ≡ true → find test (map f (drop i xs)) ≡ Some (f x)
  find-here x h e t =
      ap (λ ys. find test (map f ys)) (drop-cons xs i x h ∙ ap (λ y. y ∷ drop (suc i) xs) (sym e))
      ∙ ap (λ b. cond b (Some (f x)) (find test (map f (drop (suc i) xs)))) t

  -- and past the end is none
  pub find-past : length xs ≤ i → find test (map f (drop i xs)) ≡ None
  find-past h = ap (λ ys. find test (map f ys)) (drop_all i xs h)
