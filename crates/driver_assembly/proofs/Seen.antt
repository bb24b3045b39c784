-- What is left of a list, as it is seen.
use Rattle.std.proofs.Common.{◌≡◌, Bool, true, false, cond, List, [], ◌∷◌, map, refl, ap, ◌∙◌}
use Rattle.std.specs.List.{filter}

module _ {X Y : Type 0} (f : X → Y) (p : Y → Bool) where
  cond-map : (b : Bool) (x : X) (xs : List X) → map f (cond b (x ∷ xs) xs) ≡ cond b (f x ∷ map f xs) (map f xs)
  cond-map true x xs = refl
  cond-map false x xs = refl

  pub filter-view : (xs : List X) → map f (filter (λ x. p (f x)) xs) ≡ filter p (map f xs)
  filter-view [] = refl
  filter-view (x ∷ xs) = cond-map (p (f x)) x (filter (λ y. p (f y)) xs) ∙ ap (λ ys. cond (p (f x)) (f x ∷ ys) ys) (filter-view xs)
