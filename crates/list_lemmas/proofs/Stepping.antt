-- What walks over lists have made so far, one member more.
use Rattle.std.proofs.Common.{◌≡◌, ℕ, ◌+◌, ◌<◌, ◌≤◌, List, [], ◌∷◌, ◌++◌, length, map, take, get_or, ap, sym, subst, ◌∙◌, zero-add}
use Rattle.std.specs.List.{enumerate_from, flat_map}
use Rattle.std.proofs.Math.ListN.{get_or-map}
use Rattle.std.proofs.lemmas.Grind.{flat_map-append}
use Rattle.std.proofs.lemmas.List.{append-nil, length-map, map-append, take_all, take_more}
use Rattle.std.proofs.lemmas.List.FromFn.{get_or-enumerate_from, length-enumerate_from}

module _ {X : Type 0} (xs : List X) (k : ℕ) (x : X) (within : k < length xs) (here : x ≡ get_or xs k x) where
  pub next : take (k + 1) xs ≡ take k xs ++ x ∷ []
  next = take_more xs k x within ∙ ap (λ y. take k xs ++ y ∷ []) (sym here)

  pub map-next : {Y : Type 0} (f : X → Y) → map f (take (k + 1) xs) ≡ map f (take k xs) ++ f x ∷ []
  map-next f = ap (map f) next ∙ map-append f (take k xs) (x ∷ [])

  pub flat-next : {Y : Type 0} (f : X → List Y) → flat_map f (take (k + 1) xs) ≡ flat_map f (take k xs) ++ f x
  flat-next f = ap (flat_map f) next ∙ flat_map-append f (take k xs) (x ∷ []) ∙ ap (λ l. flat_map f (take k xs) ++ l) (append-nil (f x))

  pub enumerate-next : take (k + 1) (enumerate_from 0 xs) ≡ take k (enumerate_from 0 xs) ++ (k, x) ∷ []
  enumerate-next =
      let there : k < length (enumerate_from 0 xs) = subst (λ n. k < n) (sym (length-enumerate_from 0 xs)) within in
      take_more (enumerate_from 0 xs) k (k, x) there
      ∙ ap (λ p. take k (enumerate_from 0 xs) ++ p ∷ [])
      (get_or-enumerate_from 0 xs k (k, x) within ∙ ap (λ n. (n, get_or xs k x)) (zero-add k) ∙ ap (λ y. (k, y)) (sym here))

  pub made-next : {Y : Type 0} (f : ℕ × X → Y) → map f (take (k + 1) (enumerate_from 0 xs)) ≡ map f (take k (enumerate_from 0 xs)) ++ f (k, x) ∷ []
  made-next f = ap (map f) enumerate-next ∙ map-append f (take k (enumerate_from 0 xs)) ((k, x) ∷ [])

pub enumerate-all : {X : Type 0} (xs : List X) (k : ℕ) → length xs ≤ k → take k (enumerate_from 0 xs) ≡ enumerate_from 0 xs
enumerate-all xs k all = take_all k (enumerate_from 0 xs) (subst (λ n. n ≤ k) (sym (length-enumerate_from 0 xs)) all)

-- the same of what each member is seen as
module _ {X Y : Type 0} (view : X → Y) (xs : List X) (k : ℕ) where
  pub within-view : k < length xs → k < length (map view xs)
  within-view = subst (λ n. k < n) (sym (length-map xs view))

  pub past-view : length xs ≤ k → length (map view xs) ≤ k
  past-view = subst (λ n. n ≤ k) (sym (length-map xs view))

  pub here-view : (x : X) → x ≡ get_or xs k x → view x ≡ get_or (map view xs) k (view x)
  here-view x here = ap view here ∙ sym (get_or-map view xs k x)
