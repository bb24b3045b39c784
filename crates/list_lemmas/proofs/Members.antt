-- What stands at a place of a list, and lists that are made member by member.
use Rattle.std.proofs.Common.{◌≡◌, ℕ, zero, suc, ◌+◌, ◌<◌, ◌≤◌, Bool, true, false, cond, ◌||◌, Some, List, [], ◌∷◌, ◌++◌, add-one, filter, length, map, take, refl, ap, ◌∙◌, arith}
use Rattle.std.specs.Prelude.{slice_get}
use Rattle.std.specs.List.{enumerate_from, list_any, range_with_len, zip}

pub found : {X : Type 0} (xs : List X) (k : ℕ) → k < length xs → (x : X) × (slice_get xs k ≡ Some x)
found [] k h = absurd (omega arith)
found (x ∷ xs) zero h = (x, refl)
found (x ∷ xs) (suc k) h = found xs k (omega arith)

pub none-taken : {X : Type 0} (xs : List X) → take 0 xs ≡ []
none-taken [] = refl
none-taken (x ∷ xs) = refl

-- numbers one after another, and one more
pub range-more : (a n : ℕ) → range_with_len a (suc n) ≡ range_with_len a n ++ (a + n) ∷ []
range-more a zero = let e : a ≡ a + 0 = omega arith in ap (λ x. x ∷ []) e
range-more a (suc n) =
    let e : a + 1 + n ≡ a + suc n = omega arith in
    ap (λ xs. a ∷ xs) (range-more (a + 1) n ∙ ap (λ x. range_with_len (a + 1) n ++ x ∷ []) e)

pub below-more : (n : ℕ) → range_with_len 0 (n + 1) ≡ range_with_len 0 n ++ n ∷ []
below-more n =
    let e : 0 + n ≡ n = omega arith in
    ap (range_with_len 0) (add-one n) ∙ range-more 0 n ∙ ap (λ x. range_with_len 0 n ++ x ∷ []) e

pub enumerate-push : {X : Type 0} (b : ℕ) (xs : List X) (x : X) → enumerate_from b (xs ++ x ∷ []) ≡ enumerate_from b xs ++ (b + length xs, x) ∷ []
enumerate-push b [] x = let e : b ≡ b + 0 = omega arith in ap (λ n. (n, x) ∷ []) e
enumerate-push b (y ∷ ys) x =
    let e : b + 1 + length ys ≡ b + suc (length ys) = omega arith in
    ap (λ ps. (b, y) ∷ ps) (enumerate-push (b + 1) ys x ∙ ap (λ n. enumerate_from (b + 1) ys ++ (n, x) ∷ []) e)

module _ {X Y : Type 0} where
  pub zip-map : (f : X → Y) (xs : List X) → zip xs (map f xs) ≡ map (λ x. (x, f x)) xs
  zip-map f [] = refl
  zip-map f (x ∷ xs) = ap (λ l. (x, f x) ∷ l) (zip-map f xs)

  pub any-map : (p : Y → Bool) (f : X → Y) (xs : List X) → list_any p (map f xs) ≡ list_any (λ x. p (f x)) xs
  any-map p f [] = refl
  any-map p f (x ∷ xs) = ap (λ b. p (f x) || b) (any-map p f xs)

pub count-within : {X : Type 0} (p : X → Bool) (xs : List X) → length (filter p xs) ≤ length xs
count-within p [] = omega arith
count-within p (x ∷ xs) = by (p x) (count-within p xs)
  where
    by : (b : Bool) → length (filter p xs) ≤ length xs → length (cond b (x ∷ filter p xs) (filter p xs)) ≤ suc (length xs)
    by true h = omega arith
    by false h = omega arith
