-- Lists by their places.
use Rattle.std.proofs.Common.{◌≡◌, ℕ, zero, suc, ◌+◌, ◌<◌, Option, Some, List, [], ◌∷◌, length, map, take, drop, refl, ap, ◌∙◌, arith}
use Rattle.std.specs.Prelude.{option_map, slice_get}
use Rattle.std.specs.List.{enumerate_from, range_with_len}
use Rattle.std.proofs.lemmas.Option.{none-some}
use Rattle.list_lemmas.proofs.Members.{none-taken}
use Rattle.mentions_ranges.specs.ReadBack.{read_at}

module _ {X Y : Type 0} where
  at-from : (f : ℕ × X → Y) (b k : ℕ) (xs : List X) → slice_get (map f (enumerate_from b xs)) k ≡ option_map (λ x. f (b + k, x)) (slice_get xs k)
  at-from f b k [] = refl
  at-from f b zero (x ∷ xs) = let e : b ≡ b + 0 = omega arith in ap (λ n. Some (f (n, x))) e
  at-from f b (suc k) (x ∷ xs) = let e : b + 1 + k ≡ b + suc k = omega arith in at-from f (b + 1) k xs ∙ ap (λ n. option_map (λ x. f (n, x)) (slice_get xs k)) e

  -- what is made of each member by its place
  pub at-place : (f : ℕ × X → Y) (xs : List X) (k : ℕ) → slice_get (map f (enumerate_from 0 xs)) k ≡ option_map (λ x. f (k, x)) (slice_get xs k)
  at-place f xs k = let e : 0 + k ≡ k = omega arith in at-from f 0 k xs ∙ ap (λ n. option_map (λ x. f (n, x)) (slice_get xs k)) e

  places-of : (f : ℕ → Y) (b : ℕ) (xs : List X) → map f (range_with_len b (length xs)) ≡ map (λ p. f p.0) (enumerate_from b xs)
  places-of f b [] = refl
  places-of f b (x ∷ xs) = λ i. f b ∷ places-of f (b + 1) xs i

  -- what is made of each place alone
  pub at-number : (f : ℕ → Y) (xs : List X) (k : ℕ) → slice_get (map f (range_with_len 0 (length xs))) k ≡ option_map (λ x. f k) (slice_get xs k)
  at-number f xs k = ap (λ ys. slice_get ys k) (places-of f 0 xs) ∙ at-place (λ p. f p.0) xs k

-- numbers from place a on that rise by one from v on
pub rising : {X : Type 0} (number : X → Option ℕ) (m a v : ℕ) (xs : List X) → ((j i : ℕ) → i ≡ a + j → j < m → read_at number xs i ≡ Some (v + j))
    → take m (drop a (map number xs)) ≡ map Some (range_with_len v m)
rising number zero a v xs h = none-taken (drop a (map number xs))
rising number (suc m) a v [] h = let e : a ≡ a + 0 = omega arith in absurd (none-some (v + 0) (h 0 a e (omega arith)))
rising number (suc m) zero v (x ∷ xs) h =
    let here : v + 0 ≡ v = omega arith in
    let first : number x ≡ Some v = h 0 0 (omega arith) (omega arith) ∙ ap Some here in
    λ i. first i ∷ rising number m zero (v + 1) xs (λ j k e w. let s : v + suc j ≡ v + 1 + j = omega arith in h (suc j) (suc k) (omega arith) (omega arith) ∙ ap Some s) i
rising number (suc m) (suc a) v (x ∷ xs) h = rising number (suc m) a v xs (λ j k e w. h j (suc k) (omega arith) w)
