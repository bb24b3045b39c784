-- Members changed one after another, each by its place.
use Rattle.std.proofs.Common.{◌≡◌, ℕ, zero, suc, ◌+◌, ◌<◌, ◌≤◌, List, [], ◌∷◌, ◌++◌, take, drop, length, map, get_or, refl, ap, sym, subst, ◌∙◌, arith, add-one}
use Rattle.std.proofs.Math.ListN.{get_or-map, length-map, set}
use Rattle.std.proofs.lemmas.List.{get_or_default, map-set}
use Rattle.std.proofs.lemmas.List.FromFn.{get_or-enumerate_from, length-enumerate_from}
use Rattle.std.proofs.lemmas.List.Elements.{All-get_or}
use Rattle.std.specs.List.{enumerate_from}
use Rattle.std.specs.Prelude.{All}
use Rattle.driver_passes.specs.ByPlaces.{by_places}

module _ {X : Type 0} (f : ℕ → X → X) where
  -- the first n are changed
  abbrev pub half_from : ℕ → ℕ → List X → List X
  half_from b n xs = map (λ p. f p.0 p.1) (enumerate_from b (take n xs)) ++ drop n xs

  abbrev pub half : ℕ → List X → List X
  half = half_from 0

  pub more-from : (b c n : ℕ) (xs : List X) (d y : X) → c ≡ b + n → n < length xs → y ≡ f c (get_or (half_from b n xs) n d) → set (half_from b n xs) n y ≡ half_from b (suc n) xs
  more-from b c n [] d y e h q = absurd (omega arith)
  more-from b c zero (x ∷ xs) d y e h q = let w : c ≡ b = omega arith in ap (λ z. z ∷ xs) (q ∙ ap (λ m. f m x) w)
  more-from b c (suc n) (x ∷ xs) d y e h q = ap (λ ys. f b x ∷ ys) (more-from (b + 1) c n xs d y (omega arith) (omega arith) q)

  pub here-from : (b n : ℕ) (xs : List X) (d : X) → get_or (half_from b n xs) n d ≡ get_or xs n d
  here-from b zero [] d = refl
  here-from b (suc n) [] d = refl
  here-from b zero (x ∷ xs) d = refl
  here-from b (suc n) (x ∷ xs) d = here-from (b + 1) n xs d

  pub whole-from : (b n : ℕ) (xs : List X) → length xs ≤ n → half_from b n xs ≡ map (λ p. f p.0 p.1) (enumerate_from b xs)
  whole-from b zero [] h = refl
  whole-from b zero (x ∷ xs) h = absurd (omega arith)
  whole-from b (suc n) [] h = refl
  whole-from b (suc n) (x ∷ xs) h = ap (λ ys. f b x ∷ ys) (whole-from (b + 1) n xs (omega arith))

  -- one more is changed in place
  pub put : (n : ℕ) (xs now : List X) (d x : X) → now ≡ half n xs → n < length xs → x ≡ f n (get_or now n d) → set now n x ≡ half (n + 1) xs
  put n xs now d x so_far h q =
      ap (λ ys. set ys n x) so_far ∙ rw add-one (more-from 0 n n xs d x (omega arith) h (q ∙ ap (λ ys. f n (get_or ys n d)) so_far))

  pub by_places-length : (xs : List X) → length (by_places f xs) ≡ length xs
  by_places-length xs = length-map (enumerate_from 0 xs) (λ p. f p.0 p.1) ∙ length-enumerate_from 0 xs

  -- at its place each member is changed
  pub by_places-at : (xs : List X) (n : ℕ) (d : X) → n < length xs → get_or (by_places f xs) n d ≡ f n (get_or xs n d)
  by_places-at xs n d h =
      let same : 0 + n ≡ n = omega arith in
      get_or_default (by_places f xs) n d (f 0 d) (subst (λ k. n < k) (sym (by_places-length xs)) h)
      ∙ get_or-map (λ p. f p.0 p.1) (enumerate_from 0 xs) n (0, d) ∙ ap (λ p. f p.0 p.1) (get_or-enumerate_from 0 xs n (0, d) h) ∙ ap (λ m. f m (get_or xs n d)) same

-- a loop over a list whose views are changed
module _ {X Y : Type 0} (view : X → Y) (f : ℕ → Y → Y) (xs now : List X) (k : ℕ) (so_far : map view now ≡ half f k (map view xs)) where
  -- the next is as it was
  pub as_before : (d : X) → view (get_or now k d) ≡ view (get_or xs k d)
  as_before d =
      sym (get_or-map view now k d) ∙ ap (λ ys. get_or ys k (view d)) so_far ∙ here-from f 0 k (map view xs) (view d) ∙ get_or-map view xs k d

  -- and what is known of each was known of it
  pub known_next : (P : Y → Type 0) → All P (map view xs) → k < length xs → (d : X) → P (view (get_or now k d))
  known_next P all h d =
      subst P (get_or-map view xs k d ∙ sym (as_before d)) (All-get_or P (map view xs) k (view d) (subst (λ n. k < n) (sym (length-map xs view)) h) all)

  -- it is changed
  pub step : (d x : X) → k < length xs → view x ≡ f k (view (get_or now k d)) → map view (set now k x) ≡ half f (k + 1) (map view xs)
  step d x h q =
      map-set view now k x ∙ ap (λ ys. set ys k (view x)) so_far
      ∙ rw add-one
      (more-from f 0 k k (map view xs) (view d) (view x) (omega arith) (subst (λ n. k < n) (sym (length-map xs view)) h)
      (q ∙ ap (f k) (sym (get_or-map view now k d) ∙ ap (λ ys. get_or ys k (view d)) so_far)))

  -- and in the end all are
  pub whole : length xs ≤ k → map view now ≡ by_places f (map view xs)
  whole h = so_far ∙ whole-from f 0 k (map view xs) (subst (λ n. n ≤ k) (sym (length-map xs view)) h)
