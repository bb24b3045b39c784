-- Pairs from two lists of one length.
use Rattle.std.proofs.Common.{◌≡◌, ℕ, zero, suc, ◌+◌, ◌<◌, ◌≤◌, Bool, true, false, ◌||◌, add-one, drop, drop-cons, Some, List, [], ◌∷◌, ◌++◌, get_or, length, map, take, arith, refl, ap, sym, ◌∙◌}
use Rattle.std.proofs.lemmas.List.{drop_all, map-append, take_more}
use Rattle.std.proofs.lemmas.Slice.Zip.{length-zip}
use Rattle.std.specs.Prelude.{slice_get}
use Rattle.std.specs.List.{list_any, zip}

-- what stands at a place of a list that was made of another one
pub mapped-at : {X Y : Type 0} (f : X → Y) (xs : List X) (a : ℕ) (y : Y) → slice_get (map f xs) a ≡ Some y → (x : X) × (slice_get xs a ≡ Some x) × (f x ≡ y)
mapped-at f [] a y e = cc
mapped-at f (x ∷ xs) zero y e = let same : f x ≡ y = cc in (x, refl, same)
mapped-at f (x ∷ xs) (suc a) y e = mapped-at f xs a y e

pub twice : {X Y Z : Type 0} (f : Y → Z) (g : X → Y) (xs : List X) → map f (map g xs) ≡ map (λ x. f (g x)) xs
twice f g [] = refl
twice f g (x ∷ xs) = ap (λ l. f (g x) ∷ l) (twice f g xs)

pub map-same : {X Y : Type 0} (f g : X → Y) (xs : List X) → ((x : X) → f x ≡ g x) → map f xs ≡ map g xs
map-same f g [] h = refl
map-same f g (x ∷ xs) h = let first = h x in let rest = map-same f g xs h in λ i. first i ∷ rest i

module _ {X S : Type 0} where
  -- pairs with what was found of the pairs before
  pub zip-mapped : {T : Type 0} (xs : List X) (ss : List S) (f : X × S → T) → length ss ≡ length xs → zip xs (map f (zip xs ss)) ≡ map (λ p. (p.0, f p)) (zip xs ss)
  zip-mapped [] ss f h = refl
  zip-mapped (x ∷ xs) [] f h = absurd (omega (arith, h))
  zip-mapped (x ∷ xs) (s ∷ ss) f h = ap (λ l. (x, f (x, s)) ∷ l) (zip-mapped xs ss f (omega (arith, h)))

  pub zip-seconds : (xs : List X) (ss : List S) → length ss ≡ length xs → map (λ p. p.1) (zip xs ss) ≡ ss
  zip-seconds [] [] h = refl
  zip-seconds [] (s ∷ ss) h = absurd (omega (arith, h))
  zip-seconds (x ∷ xs) [] h = absurd (omega (arith, h))
  zip-seconds (x ∷ xs) (s ∷ ss) h = ap (λ l. s ∷ l) (zip-seconds xs ss (omega (arith, h)))

  pub zip-own : (f : X → S) (xs : List X) → zip xs (map f xs) ≡ map (λ x. (x, f x)) xs
  zip-own f [] = refl
  zip-own f (x ∷ xs) = ap (λ l. (x, f x) ∷ l) (zip-own f xs)

-- one element more
pub map-more : {X Y : Type 0} (f : X → Y) (xs : List X) (k : ℕ) (x : X) {found more : List Y} → k < length xs → x ≡ get_or xs k x → found ≡ map f (take k xs)
    → more ≡ found ++ f x ∷ [] → more ≡ map f (take (k + 1) xs)
map-more f xs k x within here so_far m =
    m ∙ ap (λ l. l ++ f x ∷ []) so_far ∙ sym (map-append f (take k xs) (x ∷ []))
    ∙ ap (map f) (ap (λ z. take k xs ++ z ∷ []) here ∙ sym (take_more xs k x within))

-- whether some of the rest pass a test, from the first of the rest
module _ {X : Type 0} (p : X → Bool) (xs : List X) (k : ℕ) (x : X) (within : k < length xs) (here : x ≡ get_or xs k x) where
  any-first : list_any p (drop k xs) ≡ (p x || list_any p (drop (k + 1) xs))
  any-first = rw (add-one k, drop-cons xs k x within, ← here)

  pub any-here : p x ≡ true → list_any p (drop k xs) ≡ true
  any-here h = any-first ∙ ap (λ b. b || list_any p (drop (k + 1) xs)) h

  pub any-past : p x ≡ false → list_any p (drop k xs) ≡ list_any p (drop (k + 1) xs)
  any-past h = any-first ∙ ap (λ b. b || list_any p (drop (k + 1) xs)) h

pub any-rest : {X S : Type 0} (p : X × S → Bool) (xs : List X) (ss : List S) (k : ℕ) → length xs ≤ k → length ss ≡ length xs → false ≡ list_any p (drop k (zip xs ss))
any-rest p xs ss k h l = let n = length-zip xs ss in ap (list_any p) (sym (drop_all k (zip xs ss) (omega (arith, h, l, n))))
