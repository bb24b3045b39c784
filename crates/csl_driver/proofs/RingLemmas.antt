-- Requests that are looked at for rings, one after another.
use Rattle.std.proofs.Common.{◌≡◌, ℕ, ◌+◌, ◌<◌, ◌≤◌, List, length, take, map, get_or, Some, ap, sym, subst, ◌∙◌}
use Rattle.std.proofs.Math.ListN.{get_or-map, length-map}
use Rattle.std.proofs.lemmas.List.{take_all}
use Rattle.std.proofs.lemmas.List.Elements.{All-more}
use Rattle.std.proofs.lemmas.Option.{slice_get-get_or}
use Rattle.value_styles.specs.Ring.{HasNoRing, IsFirstRing}
use Rattle.driver_passes.specs.Request.{Request}
use Rattle.csl_driver.specs.Rings.{NoRingIn, IsFirstRingAt}

module _ {E P : Type 0} where
  module _ {X : Type 0} (view : X → Request E P) (xs : List X) (k : ℕ) (x : X) (within : k < length xs) (here : x ≡ get_or xs k x) where
    at_view : get_or (map view xs) k (view x) ≡ view x
    at_view = get_or-map view xs k x ∙ ap view (sym here)

    within_view : k < length (map view xs)
    within_view = simp length-map within

    -- one more request has no ring
    pub no_ring-more : HasNoRing (view x).style.macros → NoRingIn (take k (map view xs)) → NoRingIn (take (k + 1) (map view xs))
    no_ring-more h before =
        All-more (λ r. HasNoRing r.style.macros) (map view xs) k (view x) within_view before (subst (λ r. HasNoRing r.style.macros) (sym at_view) h)

    -- where no request has a ring, this one has none
    pub no_ring-at : NoRingIn (map view xs) → HasNoRing (view x).style.macros
    no_ring-at h = subst (λ r. HasNoRing r.style.macros) at_view (h k (view x) within_view)

    -- the first request that has a ring
    pub first_ring : (i : ℕ) → IsFirstRing (view x).style.macros (Some i) → NoRingIn (take k (map view xs)) → IsFirstRingAt (map view xs) k i
    first_ring i first before = (view x, slice_get-get_or (map view xs) k (view x) within_view ∙ ap Some at_view, before, first)

  -- no request has a ring
  pub no_ring-all : (rs : List (Request E P)) (k : ℕ) → length rs ≤ k → NoRingIn (take k rs) → NoRingIn rs
  no_ring-all rs k h before = subst NoRingIn (take_all k rs h) before
