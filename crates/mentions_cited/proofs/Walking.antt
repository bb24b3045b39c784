-- Walks over lists, one member more.
use Rattle.std.proofs.Common.{◌≡◌, ℕ, zero, suc, ◌+◌, ◌<◌, Some, None, List, [], ◌∷◌, ◌++◌, length, map, take, drop, get_or, ap, sym, ◌∙◌, append-nil, arith, true≢false}
use Rattle.std.specs.Prelude.{flat_map, is_none, slice_get}
use Rattle.std.proofs.lemmas.Grind.{flat_map-append}
use Rattle.std.proofs.lemmas.List.{drop_more, get_or-map, length-map}
use Rattle.driver_entries.proofs.Placing.{grown}

module _ {X V : Type 0} (view : X → V) (xs : List X) (k : ℕ) (x : X) (within : k < length xs) (here : x ≡ get_or xs k x) where
  -- lists of all, joined
  pub joined-next : {Y : Type 0} (f : V → List Y) (old new : List Y) → old ≡ flat_map f (map view (take k xs)) → new ≡ old ++ f (view x) → new ≡ flat_map f (map view (take (k + 1) xs))
  joined-next f old new so_far added =
      added ∙ ap (λ l. l ++ f (view x)) so_far
      ∙ sym (ap (flat_map f) (grown xs k x within here view) ∙ flat_map-append f (map view (take k xs)) (view x ∷ []) ∙ ap (λ l. flat_map f (map view (take k xs)) ++ l) (append-nil (f (view x))))

  -- the rest of a list
  pub opened : map view (drop k xs) ≡ view x ∷ map view (drop (k + 1) xs)
  opened = ap (map view) (drop_more xs k x within ∙ ap (λ y. y ∷ drop (k + 1) xs) (sym here))

-- two lists that are the same, seen
module _ {X Y Z : Type 0} (f : X → Z) (g : Y → Z) (xs : List X) (ys : List Y) (same : map f xs ≡ map g ys) where
  pub as-long : length xs ≡ length ys
  as-long = sym (length-map xs f) ∙ ap length same ∙ length-map ys g

  pub same-at : (k : ℕ) (x : X) (y : Y) → k < length xs → k < length ys → x ≡ get_or xs k x → y ≡ get_or ys k y → f x ≡ g y
  same-at k x y w v h q =
      ap f h ∙ sym (get_or-map f xs k x (f x) w) ∙ ap (λ l. get_or l k (f x)) same ∙ get_or-map g ys k y (f x) v ∙ ap g (sym q)

-- the same in a list that is the same
pub moved : {X : Type 0} (xs ys : List X) (k : ℕ) (x : X) → ys ≡ xs → k < length ys → x ≡ get_or ys k x → (k < length xs) × (x ≡ get_or xs k x)
moved xs ys k x same within here = (omega (arith, ap length same, within), here ∙ ap (λ l. get_or l k x) same)

none≢some : {X : Type 0} {x : X} → None ≡ Some x → ⊥
none≢some h = true≢false (ap is_none h)

unwrapped : {X : Type 0} {x y : X} → Some x ≡ Some y → x ≡ y
unwrapped h = cc

-- what stands at a place
pub got : {X : Type 0} (xs : List X) (k : ℕ) (x : X) → slice_get xs k ≡ Some x → (k < length xs) × (x ≡ get_or xs k x)
got [] k x h = absurd (none≢some h)
got (y ∷ ys) zero x h = (omega arith, sym (unwrapped h))
got (y ∷ ys) (suc k) x h =
    let more = got ys k x h in
    let less = more.0 in (omega (arith, less), more.1)

-- and the rest from there on, seen
pub opened-at : {X V : Type 0} (view : X → V) (xs : List X) (k : ℕ) (v : V) → slice_get (map view xs) k ≡ Some v → map view (drop k xs) ≡ v ∷ map view (drop (k + 1) xs)
opened-at view [] k v h = absurd (none≢some h)
opened-at view (x ∷ xs) zero v h = ap (λ y. y ∷ map view xs) (unwrapped h)
opened-at view (x ∷ xs) (suc k) v h =
    let next : suc k + 1 ≡ suc (k + 1) = omega arith in
    opened-at view xs k v h ∙ ap (λ n. v ∷ map view (drop n (x ∷ xs))) (sym next)
