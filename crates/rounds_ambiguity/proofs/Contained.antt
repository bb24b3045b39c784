-- What a list contains.
use Rattle.std.proofs.Common.{◌≡◌, zero, suc, Bool, true, false, cond, ◌||◌, List, [], ◌∷◌, filter, map, refl, ap, sym, ◌∙◌, true≢false, arith}
use Rattle.std.specs.Prelude.{Contains}
use Rattle.std.specs.List.{list_any}

behind : {X : Type 0} (x y : X) (xs : List X) → Contains xs y → Contains (x ∷ xs) y
behind x y xs h = (suc h.0, omega (arith, h.1), h.2)

module _ {X : Type 0} where
  pub in-filter : (p : X → Bool) (xs : List X) (x : X) → Contains xs x → p x ≡ true → Contains (filter p xs) x
  in-filter p [] x (k, w, e) h = absurd (omega (arith, w))
  in-filter p (y ∷ ys) x (zero, w, e) h = by (p y) (ap p e ∙ h)
    where
      by : (b : Bool) → b ≡ true → Contains (cond b (y ∷ filter p ys) (filter p ys)) x
      by true q = (zero, omega arith, e)
      by false q = absurd (true≢false (sym q))
  in-filter p (y ∷ ys) x (suc k, w, e) h = by (p y) (in-filter p ys x (k, omega (arith, w), e) h)
    where
      by : (b : Bool) → Contains (filter p ys) x → Contains (cond b (y ∷ filter p ys) (filter p ys)) x
      by true q = behind y x (filter p ys) q
      by false q = q

  pub in-map : {Y : Type 0} (f : X → Y) (xs : List X) (x : X) → Contains xs x → Contains (map f xs) (f x)
  in-map f [] x (k, w, e) = absurd (omega (arith, w))
  in-map f (y ∷ ys) x (zero, w, e) = (zero, omega arith, ap f e)
  in-map f (y ∷ ys) x (suc k, w, e) = behind (f y) (f x) (map f ys) (in-map f ys x (k, omega (arith, w), e))

  pub any-in : (p : X → Bool) (xs : List X) (x : X) → Contains xs x → p x ≡ true → list_any p xs ≡ true
  any-in p [] x (k, w, e) h = absurd (omega (arith, w))
  any-in p (y ∷ ys) x (zero, w, e) h = ap (λ b. b || list_any p ys) (ap p e ∙ h)
  any-in p (y ∷ ys) x (suc k, w, e) h = by (p y) (any-in p ys x (k, omega (arith, w), e) h)
    where
      by : (b : Bool) → list_any p ys ≡ true → b || list_any p ys ≡ true
      by true q = refl
      by false q = q

  -- one of a list that passes a test
  pub some-in : (p : X → Bool) (xs : List X) → list_any p xs ≡ true → (x : X) × Contains xs x × (p x ≡ true)
  some-in p [] h = absurd (true≢false (sym h))
  some-in p (y ∷ ys) h = by (p y) refl h (some-in p ys)
    where
      by : (b : Bool) → p y ≡ b → b || list_any p ys ≡ true → (list_any p ys ≡ true → (x : X) × Contains ys x × (p x ≡ true)) → (x : X) × Contains (y ∷ ys) x × (p x ≡ true)
      by true e q more = (y, (zero, omega arith, refl), e)
      by false e q more = let r = more q in (r.0, behind y r.0 ys r.1, r.2)
