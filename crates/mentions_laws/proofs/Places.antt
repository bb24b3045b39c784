-- Lists beside one another, by places.
use Rattle.std.proofs.Common.{◌≡◌, ℕ, zero, suc, Bool, true, false, not, ◌&&◌, Option, Some, None, List, [], ◌∷◌, map, refl, ap, sym, ◌∙◌}
use Rattle.std.specs.Prelude.{option_map, slice_get, zip}
use Rattle.std.proofs.lemmas.Option.{none-some, slice_get-map}
use Rattle.mentions_ranges.specs.Stretches.{both}

pub mapped : {X Y : Type 0} (f : X → Y) (xs : List X) (k : ℕ) (x : X) → slice_get xs k ≡ Some x → slice_get (map f xs) k ≡ Some (f x)
mapped f xs k x h = slice_get-map f xs k ∙ ap (option_map f) h

pub zipped : {X Y : Type 0} (xs : List X) (ys : List Y) (k : ℕ) (x : X) (y : Y) → slice_get xs k ≡ Some x → slice_get ys k ≡ Some y → slice_get (zip xs ys) k ≡ Some (x, y)
zipped [] ys k x y h e = absurd (none-some x h)
zipped (a ∷ xs) [] k x y h e = absurd (none-some y e)
zipped (a ∷ xs) (b ∷ ys) zero x y h e = λ i. at (h i) (e i)
  where
    at : {X Y : Type 0} → Option X → Option Y → Option (X × Y)
    at (Some x) (Some y) = Some (x, y)
    at _ _ = None
zipped (a ∷ xs) (b ∷ ys) (suc k) x y h e = zipped xs ys k x y h e

-- where there is one behind it, a place is in the list
pub there-before : {X : Type 0} (xs : List X) (k : ℕ) (y : X) → slice_get xs (suc k) ≡ Some y → (x : X) × (slice_get xs k ≡ Some x)
there-before [] k y h = absurd (none-some y h)
there-before (x ∷ xs) zero y h = (x, refl)
there-before (x ∷ xs) (suc k) y h = there-before xs k y h

pub none-both : {X : Type 0} (link : X → X → Bool) (o p : Option X) → p ≡ None → both link o p ≡ false
none-both link None p h = refl
none-both link (Some x) p h = ap (both link (Some x)) h

pub and-false : (b : Bool) → b && false ≡ false
and-false true = refl
and-false false = refl

-- a dash by three neighbours
pub dash-there : (a b c : Bool) → a && b && not c ≡ (a && b) && not (b && c)
dash-there true true c = refl
dash-there true false c = refl
dash-there false true c = refl
dash-there false false c = refl

pub nothing : {X Y : Type 0} (f : X → Y) (xs : List X) (k : ℕ) → slice_get xs k ≡ None → slice_get (map f xs) k ≡ None
nothing f xs k h = slice_get-map f xs k ∙ ap (option_map f) h

pub zipped-none : {X Y Z : Type 0} (f : X × Y → Z) (xs : List X) (ys : List Y) (k : ℕ) → slice_get xs k ≡ None → slice_get (map f (zip xs ys)) k ≡ None
zipped-none f [] ys k h = refl
zipped-none f (x ∷ xs) [] k h = refl
zipped-none f (x ∷ xs) (y ∷ ys) zero h = absurd (none-some x (sym h))
zipped-none f (x ∷ xs) (y ∷ ys) (suc k) h = zipped-none f xs ys k h
