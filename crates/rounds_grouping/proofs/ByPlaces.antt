-- Members changed one after another, each by its place.
use Rattle.std.proofs.Common.{◌≡◌, ℕ, zero, suc, ◌+◌, ◌<◌, ◌≤◌, List, [], ◌∷◌, length, map, get_or, refl, ap, sym, ◌∙◌, subst, arith, add-one}
use Rattle.std.proofs.Math.ListN.{get_or-map, length-map, set}
use Rattle.std.proofs.lemmas.List.{map-set}
use Rattle.list_lemmas.proofs.Stepping.{here-view, within-view}
use Rattle.driver_passes.proofs.Halves.{half, half_from, here-from, more-from}

module _ {X : Type 0} (f : ℕ → X → X) where
  -- one more is changed
  pub more : (n : ℕ) (xs : List X) (d y : X) → n < length xs → y ≡ f n (get_or xs n d) → set (half f n xs) n y ≡ half f (n + 1) xs
  more n xs d y h q = rw add-one (more-from f 0 n n xs d y (omega arith) h (q ∙ ap (f n) (sym (here-from f 0 n xs d))))

  kept-from : {Y : Type 0} (g : X → Y) (b n k : ℕ) (xs : List X) (e : Y) → n ≤ k → get_or (map g (half_from f b n xs)) k e ≡ get_or (map g xs) k e
  kept-from g b zero k [] e h = refl
  kept-from g b (suc n) k [] e h = refl
  kept-from g b zero k (x ∷ xs) e h = refl
  kept-from g b (suc n) zero (x ∷ xs) e h = absurd (omega arith)
  kept-from g b (suc n) (suc k) (x ∷ xs) e h = kept-from g (b + 1) n k xs e (omega arith)

  -- the others are as they were
  pub kept : {Y : Type 0} (g : X → Y) (n k : ℕ) (xs : List X) (e : Y) → n ≤ k → get_or (map g (half f n xs)) k e ≡ get_or (map g xs) k e
  kept g = kept-from g 0

  -- a member of a list whose first n are changed, and that stands at n, stood there before
  pub stood : (n : ℕ) (xs ys : List X) (x : X) → ys ≡ half f n xs → x ≡ get_or ys n x → x ≡ get_or xs n x
  stood n xs ys x e h = h ∙ ap (λ zs. get_or zs n x) e ∙ here-from f 0 n xs x

pub at-map : {X Y : Type 0} (g : X → Y) (xs : List X) (k : ℕ) (d : X) (e : Y) → k < length xs → get_or (map g xs) k e ≡ g (get_or xs k d)
at-map g [] k d e h = absurd (omega arith)
at-map g (x ∷ xs) zero d e h = refl
at-map g (x ∷ xs) (suc k) d e h = at-map g xs k d e (omega arith)

-- what a list of views has at a place
pub viewed : {X Y Z : Type 0} (view : X → Y) (g : Y → Z) (xs : List X) (k : ℕ) (x : X) (e : Z) → k < length xs → x ≡ get_or xs k x → get_or (map g (map view xs)) k e ≡ g (view x)
viewed view g xs k x e h q =
    at-map g (map view xs) k (view x) e (subst (λ n. k < n) (sym (length-map xs view)) h) ∙ ap g (get_or-map view xs k x ∙ ap view (sym q))

-- a loop over a list whose views are changed one after another: what stands at k, and the step
module _ {X Y : Type 0} (view : X → Y) (f : ℕ → Y → Y) (k : ℕ) (xs now : List X) (d : X) where
  pub cite-at : map view now ≡ half f k (map view xs) → d ≡ get_or now k d → view (get_or now k d) ≡ get_or (map view xs) k (view (get_or now k d))
  cite-at e h = stood f k (map view xs) (map view now) (view (get_or now k d)) e (here-view view now k (get_or now k d) (ap (λ x. get_or now k x) h))

  pub step : (x : X) → map view now ≡ half f k (map view xs) → k < length xs → view x ≡ f k (get_or (map view xs) k (view (get_or now k d)))
      → map view (set now k x) ≡ half f (k + 1) (map view xs)
  step x e h q =
      map-set view now k x ∙ ap (λ ys. set ys k (view x)) e
      ∙ more f k (map view xs) (view (get_or now k d)) (view x) (within-view view xs k h) q
