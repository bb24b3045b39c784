-- Lists over the places of entries that are the map of a function of the entries.
use Rattle.std.proofs.Common.{◌≡◌, suc, ◌+◌, ◌<◌, Bool, true, false, cond, not, ◌||◌, List, [], ◌∷◌, length, map, get_or, set, refl, ap, ◌∙◌, arith}
use Rattle.std.specs.Cmp.{IsEquivalence}
use Rattle.driver_entries.specs.Entries.{is_in, place}
use Rattle.driver_entries.specs.Laws.{NoTwoEqual}
use Rattle.driver_entries.proofs.Distinct.{is_in-equal}

module _ {E : Type 0} (eq : E → E → Bool) where
  module _ {S : Type 0} (f : E → S) (x : E) where
    -- what stands at the place of x
    pub map-at : ((d : E) → eq x d ≡ true → f d ≡ f x) → (es : List E) → is_in eq x es ≡ true → (s : S) → get_or (map f es) (place eq x es) s ≡ f x
    map-at same [] there s = cc
    map-at same (d ∷ ds) there s = by (eq x d) refl there (map-at same ds)
      where
        by : (b : Bool) → eq x d ≡ b → (b || is_in eq x ds) ≡ true → (is_in eq x ds ≡ true → (t : S) → get_or (map f ds) (place eq x ds) t ≡ f x)
            → get_or (f d ∷ map f ds) (cond (not b) (1 + place eq x ds) 0) s ≡ f x
        by true q there more = same d q
        by false q there more = let next : 1 + place eq x ds ≡ suc (place eq x ds) = omega arith in rw next (more there s)

    module _ (laws : IsEquivalence eq) (g : E → S) (v : S) (hit : (d : E) → eq x d ≡ true → g d ≡ v) (miss : (d : E) → eq x d ≡ false → f d ≡ g d) where
      others : (ds : List E) → is_in eq x ds ≡ false → map f ds ≡ map g ds
      others [] out = refl
      others (d ∷ ds) out = by (eq x d) refl out (others ds)
        where
          by : (b : Bool) → eq x d ≡ b → (b || is_in eq x ds) ≡ false → (is_in eq x ds ≡ false → map f ds ≡ map g ds) → map f (d ∷ ds) ≡ map g (d ∷ ds)
          by true q out more = cc
          by false q out more = rw (miss d q, more out) refl

      -- what is written there, where nothing else changes
      pub map-set_at : (es : List E) → NoTwoEqual eq es → is_in eq x es ≡ true → set (map f es) (place eq x es) v ≡ map g es
      map-set_at [] once there = cc
      map-set_at (d ∷ ds) once there = by (eq x d) refl there (map-set_at ds once.1)
        where
          by : (b : Bool) → eq x d ≡ b → (b || is_in eq x ds) ≡ true → (is_in eq x ds ≡ true → set (map f ds) (place eq x ds) v ≡ map g ds)
              → set (map f (d ∷ ds)) (cond (not b) (1 + place eq x ds) 0) v ≡ map g (d ∷ ds)
          by true q there more = rw (hit d q, others ds (is_in-equal eq laws x d ds q ∙ once.0)) refl
          by false q there more =
              let next : 1 + place eq x ds ≡ suc (place eq x ds) = omega arith in
              rw (next, miss d q) (ap (λ l. g d ∷ l) (more there))
