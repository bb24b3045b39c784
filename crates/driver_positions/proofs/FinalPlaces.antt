-- The places of the entries of all cites, in the final order.
use Rattle.std.proofs.Common.{◌≡◌, ℕ, zero, ◌+◌, ◌<◌, Bool, true, List, [], ◌∷◌, ◌++◌, All, take, length, map, get_or, refl, ap, sym, subst, ◌∙◌, append-nil, arith, suc}
use Rattle.std.specs.Cmp.{IsEquivalence}
use Rattle.std.proofs.Math.ListN.{get_or-map, length-map}
use Rattle.std.proofs.lemmas.Grind.{flat_map-append}
use Rattle.std.proofs.lemmas.List.{map-append}
use Rattle.std.proofs.lemmas.Option.{get_or_from_slice_get}
use Rattle.driver_entries.specs.Entries.{place}
use Rattle.driver_entries.specs.PlacedItems.{IsPlaced}
use Rattle.driver_entries.proofs.ListedPlaces.{place-within}
use Rattle.driver_entries.proofs.Placing.{all_in, all_in-behind, all_in-front, grown, left, right}
use Rattle.driver_passes.specs.Renders.{CiteRender, ItemRender}
use Rattle.driver_positions.specs.FinalProperties.{cited_finally}
use Rattle.driver_positions.specs.FinalSteps.{led_to}
use Rattle.driver_positions.proofs.FinalItems.{RowPlaced}

-- what holds of each, of the one at a place
pub all-at : {X Y : Type 0} (P : Y → Type 0) (view : X → Y) (xs : List X) (k : ℕ) (x : X) → All P (map view xs) → k < length xs → x ≡ get_or xs k x → P (view x)
all-at P view xs k x all w h =
    subst P (get_or-map view xs k x ∙ ap view (sym h)) (all k (view x) (subst (λ n. k < n) (sym (length-map xs view)) w))

pub all-rest : {X : Type 0} (P : X → Type 0) (x : X) (xs : List X) → All P (x ∷ xs) → All P xs
all-rest P x xs all = λ k d w. all (suc k) d (omega (arith, w))

module _ {E P : Type 0} (eq : E → E → Bool) (es : List E) where
  pub leads : (row : List ℕ) (i : ItemRender E P) → IsPlaced eq es row i → led_to row i ≡ place eq i.entry es
  leads row i h = get_or_from_slice_get row i.properties.certain.initial_idx (place eq i.entry es) 0 h

  led-all : (row : List ℕ) (items : List (ItemRender E P)) → All (IsPlaced eq es row) items → map (led_to row) items ≡ map (λ e. place eq e es) (map (λ i. i.entry) items)
  led-all row [] all = refl
  led-all row (i ∷ items) all =
      let first = leads row i (all 0 i (omega arith)) in
      λ j. first j ∷ led-all row items (all-rest (IsPlaced eq es row) i items all) j

  -- one more request
  pub places-more : {X : Type 0} (view : X → CiteRender E P) (cites : List X) (r : ℕ) (x : X) → r < length cites → x ≡ get_or cites r x
      → (row all more : List ℕ) → RowPlaced eq es row (view x) → all ≡ map (λ e. place eq e es) (cited_finally (map view (take r cites)))
      → more ≡ all ++ map (led_to row) (view x).items → more ≡ map (λ e. place eq e es) (cited_finally (map view (take (r + 1) cites)))
  places-more view cites r x w h row all more placed so-far next =
      let before = cited_finally (map view (take r cites)) in
      let entries = map (λ i. i.entry) (view x).items in
      let flat : cited_finally (map view (take (r + 1) cites)) ≡ before ++ entries =
      ap cited_finally (grown cites r x w h view) ∙ flat_map-append (λ y. map (λ i. i.entry) y.items) (map view (take r cites)) (view x ∷ [])
      ∙ ap (λ l. before ++ l) (append-nil entries) in
      next ∙ (λ j. so-far j ++ led-all row (view x).items placed j) ∙ sym (map-append (λ e. place eq e es) before entries) ∙ ap (map (λ e. place eq e es)) (sym flat)

  module _ (laws : IsEquivalence eq) where
    -- the entries of a request are among those of all
    row-in : (cites : List (CiteRender E P)) (r : ℕ) (x : CiteRender E P) → all_in eq laws es (cited_finally cites) ≡ true → r < length cites
        → all_in eq laws es (map (λ i. i.entry) (get_or cites r x).items) ≡ true
    row-in [] r x h w = absurd (omega (arith, w))
    row-in (y ∷ ys) zero x h w = all_in-front eq laws es (map (λ i. i.entry) y.items) (cited_finally ys) h
    row-in (y ∷ ys) (suc r) x h w = row-in ys r x (all_in-behind eq laws es (map (λ i. i.entry) y.items) (cited_finally ys) h) (omega (arith, w))

    below : (row : List ℕ) (items : List (ItemRender E P)) → All (IsPlaced eq es row) items → all_in eq laws es (map (λ i. i.entry) items) ≡ true → All (λ i. led_to row i < length es) items
    below row items all h = λ k d w. at items all h k d w
      where
        at : (items : List (ItemRender E P)) → All (IsPlaced eq es row) items → all_in eq laws es (map (λ i. i.entry) items) ≡ true
            → (k : ℕ) (d : ItemRender E P) → k < length items → led_to row (get_or items k d) < length es
        at [] all h k d w = absurd (omega (arith, w))
        at (i ∷ items) all h zero d w =
            subst (λ n. n < length es) (sym (leads row i (all 0 i (omega arith)))) (place-within eq laws i.entry es (left _ (all_in eq laws es (map (λ i. i.entry) items)) h))
        at (i ∷ items) all h (suc k) d w =
            at items (all-rest (IsPlaced eq es row) i items all) (right _ (all_in eq laws es (map (λ i. i.entry) items)) h) k d (omega (arith, w))

    -- each cite of a request leads to a place of an entry
    pub row-below : {X : Type 0} (view : X → CiteRender E P) (cites : List X) (r : ℕ) (x : X) (row : List ℕ) → all_in eq laws es (cited_finally (map view cites)) ≡ true
        → r < length cites → x ≡ get_or cites r x → RowPlaced eq es row (view x) → All (λ i. led_to row i < length es) (view x).items
    row-below view cites r x row h w here placed =
        let inside : r < length (map view cites) = subst (λ n. r < n) (sym (length-map cites view)) w in
        let at : get_or (map view cites) r (view x) ≡ view x = get_or-map view cites r x ∙ ap view (sym here) in
        below row (view x).items placed (subst (λ y. all_in eq laws es (map (λ i. i.entry) y.items) ≡ true) at (row-in (map view cites) r (view x) h inside))
