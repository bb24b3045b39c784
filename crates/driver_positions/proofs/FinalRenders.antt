-- The final properties of the cites of one request after another.
use Rattle.std.proofs.Common.{◌≡◌, ℕ, ◌+◌, ◌<◌, Bool, List, [], ◌++◌, take, length, map, get_or, Some, None, refl, ap, sym, subst, ◌∙◌, arith}
use Rattle.std.specs.Prelude.{All, Option, option_map, slice_index}
use Rattle.std.specs.List.{AllZip, last_or}
use Rattle.std.specs.Option.{option_map_or}
use Rattle.std.proofs.Math.ListN.{length-map, set}
use Rattle.std.proofs.lemmas.List.{take-map}
use Rattle.driver_lookup.specs.declared.state.IbidState.{IbidState}
use Rattle.driver_entries.specs.Entries.{place}
use Rattle.driver_entries.specs.PlacedItems.{IsPlaced}
use Rattle.driver_passes.specs.Renders.{CiteRender, ItemRender}
use Rattle.driver_passes.specs.Request.{RequestedCite}
use Rattle.driver_passes.proofs.Halves.{half}
use Rattle.driver_positions.specs.FinalProperties.{as_cite, items_before, with_final, with_final_items}
use Rattle.driver_positions.specs.FinalSteps.{all_set, first_position, items_at}
use Rattle.driver_positions.proofs.FinalItems.{RowPlaced, all-final, first-kept, items-at, last-map, placed-at}
use Rattle.driver_positions.proofs.Halves.{changed-kept, half-kept, half-next, half-stands}

-- a request's cites as cites
abbrev as_cites : {E P : Type 0} → CiteRender E P → List (RequestedCite E P)
as_cites r = map as_cite r.items

cites-through : {E P : Type 0} (o : Option (CiteRender E P)) → map as_cite (option_map_or (λ before. before.items) o []) ≡ option_map_or (λ cs. cs) (option_map as_cites o) []
cites-through None = refl
cites-through (Some x) = refl

before-cites : {E P : Type 0} (xs : List (CiteRender E P)) (r : ℕ) → map as_cite (items_before xs r) ≡ option_map_or (λ cs. cs) (last_or None (take r (map as_cites xs))) []
before-cites xs r =
    cites-through (last_or None (take r xs)) ∙ ap (λ o. option_map_or (λ cs. cs) o []) (last-map as_cites None (take r xs) ∙ ap (last_or None) (sym (take-map as_cites r xs)))

module _ {E P : Type 0} (eq : E → E → Bool) (payload_eq : P → P → Bool) (number_of : E → ℕ) where
  -- a request at a place among these, with its final properties
  abbrev pub finally_at : List (CiteRender E P) → ℕ → CiteRender E P → CiteRender E P
  finally_at cites r x = record x { items = with_final_items eq payload_eq number_of (items_before cites r) x.items }

  cites-kept : (cites : List (CiteRender E P)) (r : ℕ) (x : CiteRender E P) → as_cites (finally_at cites r x) ≡ as_cites x
  cites-kept cites r x = changed-kept (λ k i. with_final eq payload_eq number_of (items_before cites r ++ take k x.items) i) as_cite (λ k i. refl) 0 x.items

  module _ {X : Type 0} (view : X → CiteRender E P) (old now : List X) (r : ℕ) (found : X) (within : r < length old) (counted : length now ≡ length old) (here : found ≡ get_or now r found)
      (so-far : map view now ≡ half (finally_at (map view old)) r (map view old)) where
    -- its cites know where their entries stand
    pub placed-now : {V : Type 0} (entries : List E) (list : V → List ℕ) (places : List V) (rows : List (List ℕ)) (v : V) → map list places ≡ rows
        → AllZip (RowPlaced eq entries) rows (map view old) → v ≡ get_or places r v → RowPlaced eq entries (list v) (view found)
    placed-now entries list places rows v made all q =
        placed-at eq entries list places rows (map view old) r v (view found) made all (subst (λ n. r < n) (sym (length-map old view)) within) q
        (half-stands (finally_at (map view old)) view old now r found within here so-far)

    -- one more request
    pub next-render : (entries : List E) (places numbers : List ℕ) (first : IbidState) (x : X)
        → first ≡ first_position eq payload_eq (items_before (map view now) r) (items_at (map view now) r)
        → ((e : E) → slice_index numbers (place eq e entries) ≡ number_of e) → All (IsPlaced eq entries places) (view found).items
        → view x ≡ record (view found) { items = all_set eq payload_eq first places numbers (view found).items }
        → map view (set now r x) ≡ half (finally_at (map view old)) (r + 1) (map view old)
    next-render entries places numbers first x start numbered placed changed =
        let rs = map view old in
        let f = finally_at rs in
        let items = (view found).items in
        let cites : map as_cites (map view now) ≡ map as_cites rs = ap (map as_cites) so-far ∙ half-kept f as_cites (cites-kept rs) r rs in
        let before : map as_cite (items_before (map view now) r) ≡ map as_cite (items_before rs r) =
        before-cites (map view now) r ∙ ap (λ l. option_map_or (λ cs. cs) (last_or None (take r l)) []) cites ∙ sym (before-cites rs r) in
        let first-is : first ≡ first_position eq payload_eq (items_before rs r) items =
        start ∙ ap (first_position eq payload_eq (items_before (map view now) r)) (items-at {I = ItemRender E P} view (λ i. i) now r found (omega arith) here)
        ∙ first-kept eq payload_eq (items_before (map view now) r) (items_before rs r) items before in
        half-next f view old now r found within here so-far x
        (changed ∙ ap (λ l. record (view found) { items = l }) (all-final eq payload_eq number_of entries places numbers (items_before rs r) items first first-is numbered placed))
