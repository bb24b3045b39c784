-- Lists whose members are changed one after another.
use Rattle.std.proofs.Common.{◌≡◌, ℕ, zero, suc, ◌+◌, ◌<◌, ◌≤◌, List, [], ◌∷◌, ◌++◌, take, drop, length, map, get_or, Some, refl, ap, sym, subst, ◌∙◌, arith, add-one}
use Rattle.std.specs.Prelude.{slice_get, option_map}
use Rattle.std.specs.List.{enumerate_from}
use Rattle.std.proofs.Math.ListN.{get_or-map, length-map, set}
use Rattle.std.proofs.lemmas.Option.{slice_get-get_or, slice_get-map}
use Rattle.driver_passes.proofs.Halves.{as_before, half, half_from, step}

module _ {Y : Type 0} (f : ℕ → Y → Y) where
  -- each member changed, where the first stands at b
  abbrev pub all_changed : ℕ → List Y → List Y
  all_changed b ys = map (λ p. f p.0 p.1) (enumerate_from b ys)

  -- what no change changes
  module _ {Z : Type 0} (g : Y → Z) (same : (k : ℕ) (y : Y) → g (f k y) ≡ g y) where
    kept-from : (b k : ℕ) (ys : List Y) → map g (half_from f b k ys) ≡ map g ys
    kept-from b zero ys = refl
    kept-from b (suc k) [] = refl
    kept-from b (suc k) (y ∷ ys) = λ i. same b y i ∷ kept-from (b + 1) k ys i

    pub half-kept : (k : ℕ) (ys : List Y) → map g (half f k ys) ≡ map g ys
    half-kept = kept-from 0

    pub changed-kept : (b : ℕ) (ys : List Y) → map g (all_changed b ys) ≡ map g ys
    changed-kept b [] = refl
    changed-kept b (y ∷ ys) = λ i. same b y i ∷ changed-kept (b + 1) ys i

  module _ {X : Type 0} (view : X → Y) (old now : List X) (k : ℕ) (found : X) (within : k < length old) (here : found ≡ get_or now k found)
      (so-far : map view now ≡ half f k (map view old)) where
    -- what stands at k is as it was
    pub half-stands : view found ≡ get_or (map view old) k (view found)
    half-stands = ap view here ∙ as_before view f old now k so-far found ∙ sym (get_or-map view old k found)

    -- one more member
    pub half-next : (x : X) → view x ≡ f k (view found) → map view (set now k x) ≡ half f (k + 1) (map view old)
    half-next x changed = step view f old now k so-far found x within (changed ∙ ap (λ y. f k (view y)) here)

-- two changes that agree at each member
pub changes-agree : {Y : Type 0} (f g : ℕ → Y → Y) (b : ℕ) (ys : List Y) → ((k : ℕ) (y : Y) → slice_get ys k ≡ Some y → f (b + k) y ≡ g (b + k) y) → all_changed f b ys ≡ all_changed g b ys
changes-agree f g b [] h = refl
changes-agree f g b (y ∷ ys) h =
    let at : b + 0 ≡ b = omega arith in
    let first : f b y ≡ g b y = ap (λ n. f n y) (sym at) ∙ h 0 y refl ∙ ap (λ n. g n y) at in
    λ i. first i ∷ changes-agree f g (b + 1) ys rest i
  where
    rest : (k : ℕ) (z : _) → slice_get ys k ≡ Some z → f (b + 1 + k) z ≡ g (b + 1 + k) z
    rest k z q =
        let at : b + 1 + k ≡ b + suc k = omega arith in
        ap (λ n. f n z) at ∙ h (suc k) z q ∙ ap (λ n. g n z) (sym at)

-- what stands at a place, seen
pub seen-at : {X Y : Type 0} (view : X → Y) (xs : List X) (k : ℕ) (x : X) → k < length xs → x ≡ get_or xs k x → slice_get (map view xs) k ≡ Some (view x)
seen-at view xs k x w h = slice_get-map view xs k ∙ ap (option_map view) (slice_get-get_or xs k x w ∙ ap Some (sym h))
