-- What stands at a place of a list.
use Rattle.std.proofs.Common.{◌≡◌, ℕ, zero, suc, ◌+◌, ◌<◌, List, [], ◌∷◌, length, map, refl, ap, ◌∙◌, arith}
use Rattle.std.specs.Prelude.{Option, None, Some, option_and_then, option_map, slice_get, slice_index_or}
use Rattle.std.specs.List.{enumerate_from}
use Rattle.driver_passes.specs.ByPlaces.{by_places}

module _ {X : Type 0} (f : ℕ → X → X) where
  at-from : (b k : ℕ) (xs : List X) → slice_get (map (λ p. f p.0 p.1) (enumerate_from b xs)) k ≡ option_map (f (b + k)) (slice_get xs k)
  at-from b k [] = refl
  at-from b zero (x ∷ xs) = let e : b ≡ b + 0 = omega arith in ap (λ n. Some (f n x)) e
  at-from b (suc k) (x ∷ xs) = let e : b + 1 + k ≡ b + suc k = omega arith in at-from (b + 1) k xs ∙ ap (λ n. option_map (f n) (slice_get xs k)) e

  -- a member changed by its place
  pub at-place : (k : ℕ) (xs : List X) → slice_get (by_places f xs) k ≡ option_map (f k) (slice_get xs k)
  at-place k xs = let e : 0 + k ≡ k = omega arith in at-from 0 k xs ∙ ap (λ n. option_map (f n) (slice_get xs k)) e

-- what is read of the member at a place
pub read-at : {X Y : Type 0} (f : X → Option Y) (xs : List X) (k : ℕ) → slice_index_or (map f xs) k None ≡ option_and_then f (slice_get xs k)
read-at f [] k = refl
read-at f (x ∷ xs) zero = refl
read-at f (x ∷ xs) (suc k) = read-at f xs k

pub within : {X : Type 0} (xs : List X) (k : ℕ) (x : X) → slice_get xs k ≡ Some x → k < length xs
within [] k x h = cc
within (y ∷ xs) zero x h = omega arith
within (y ∷ xs) (suc k) x h = let w = within xs k x h in omega (arith, w)
