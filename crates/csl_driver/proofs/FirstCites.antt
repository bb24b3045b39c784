-- The first cites of the bibliography's entries, found by the places of the entries.
use Rattle.std.proofs.Common.{◌≡◌, ℕ, suc, ◌+◌, ◌<◌, Bool, true, false, not, ◌||◌, cond, List, [], ◌∷◌, ◌++◌, Option, Some, None, length, map, take, get_or, refl, ap, sym, subst, ◌∙◌, arith}
use Rattle.std.specs.Prelude.{All, find, option_map, slice_get, unwrap_or}
use Rattle.std.specs.Cmp.{IsEquivalence}
use Rattle.std.specs.List.{cons_option, filter_map}
use Rattle.std.specs.Option.{option_and_then}
use Rattle.std.proofs.Math.ListN.{length-map}
use Rattle.std.proofs.lemmas.List.Elements.{All-get_or, filter_map-append}
use Rattle.std.proofs.lemmas.Bool.{or_right}
use Rattle.std.proofs.lemmas.Option.{slice_get-get_or, slice_get-map}
use Rattle.driver_assembly.specs.BibliographyItems.{cites_at}
use Rattle.driver_entries.specs.Entries.{is_in, place}
use Rattle.rounds_names.proofs.Marking.{filter_map-more, filter_map-same}
use Rattle.driver_passes.specs.Places.{cite_at}
use Rattle.driver_passes.specs.Renders.{CiteRender, ItemRender, Place}
use Rattle.driver_passes.specs.Request.{Request}
use Rattle.driver_positions.specs.FinalProperties.{AreFirstItems, first_item, item_at, items_finally}

module _ {E P : Type 0} (eq : E → E → Bool) (entries : List E) (cites : List (CiteRender E P)) where
  -- the first cite of the entry at a place
  abbrev pub first_of : ℕ → Option (ItemRender E P)
  first_of p = option_and_then (first_item eq cites) (slice_get entries p)

  pub cite-item : (at : Place) → option_map (λ (c : Request E P × ItemRender E P). c.1) (cite_at cites at) ≡ item_at cites at
  cite-item at = by (slice_get cites at.0)
    where
      inner : (r : CiteRender E P) (o : Option (ItemRender E P)) → option_map (λ (c : Request E P × ItemRender E P). c.1) (option_map (λ i. (r.request, i)) o) ≡ o
      inner r None = refl
      inner r (Some i) = refl

      by : (o : Option (CiteRender E P))
          → option_map (λ (c : Request E P × ItemRender E P). c.1) (option_and_then (λ r. option_map (λ i. (r.request, i)) (slice_get r.items at.1)) o) ≡ option_and_then (λ r. slice_get r.items at.1) o
      by None = refl
      by (Some r) = inner r (slice_get r.items at.1)

  module _ (firsts : List (Option Place)) (are : AreFirstItems eq entries cites firsts) (p : ℕ) (within : p < length firsts) where
    noted : (o : Option Place) → o ≡ get_or firsts p o → option_map (item_at cites) o ≡ option_map Some (first_of p)
    noted o here = by (slice_get entries p) both
      where
        both : Some (option_map (item_at cites) o) ≡ option_map (λ e. option_map Some (first_item eq cites e)) (slice_get entries p)
        both =
            sym (ap (option_map (option_map (item_at cites))) (slice_get-get_or firsts p o within ∙ ap Some (sym here)))
            ∙ sym (slice_get-map (option_map (item_at cites)) firsts p) ∙ ap (λ l. slice_get l p) are
            ∙ slice_get-map (λ e. option_map Some (first_item eq cites e)) entries p

        by : (d : Option E) → Some (option_map (item_at cites) o) ≡ option_map (λ e. option_map Some (first_item eq cites e)) d
            → option_map (item_at cites) o ≡ option_map Some (option_and_then (first_item eq cites) d)
        by None h = cc
        by (Some e) h = ap (λ x. unwrap_or x (option_map (item_at cites) o)) h

    pub none-first : None ≡ get_or firsts p None → first_of p ≡ None
    none-first here = by (first_of p) (noted None here)
      where
        by : (o : Option (ItemRender E P)) → None ≡ option_map Some o → o ≡ None
        by None h = refl
        by (Some i) h = cc

    pub some-first : (at : Place) → Some at ≡ get_or firsts p (Some at) → (i : ItemRender E P) × (item_at cites at ≡ Some i) × (first_of p ≡ Some i)
    some-first at here = by (first_of p) (noted (Some at) here)
      where
        by : (o : Option (ItemRender E P)) → Some (item_at cites at) ≡ option_map Some o → (i : ItemRender E P) × (item_at cites at ≡ Some i) × (o ≡ Some i)
        by None h = absurd (none h)
          where
            none : Some (item_at cites at) ≡ None → ⊥
            none q = cc
        by (Some i) h = (i, ap (λ x. unwrap_or x None) h, refl)

  as-long : (firsts : List (Option Place)) → AreFirstItems eq entries cites firsts → length firsts ≡ length entries
  as-long firsts are =
      sym (length-map firsts (option_map (item_at cites))) ∙ ap length are ∙ length-map entries (λ e. option_map Some (first_item eq cites e))

  -- there is one for each member of an order of places of entries
  pub within-firsts : (firsts : List (Option Place)) → AreFirstItems eq entries cites firsts → (order : List ℕ) (k : ℕ) → All (λ p. p < length entries) order → k < length order → get_or order k 0 < length firsts
  within-firsts firsts are order k below next = subst (λ n. get_or order k 0 < n) (sym (as-long firsts are)) (All-get_or (λ q. q < length entries) order k 0 next below)

  module _ (order : List ℕ) (k : ℕ) (places : List Place) (found : cites_at cites places ≡ filter_map first_of (take k order)) (p : ℕ) (next : k < length order) (here : p ≡ get_or order k p)
      (firsts : List (Option Place)) (are : AreFirstItems eq entries cites firsts) (within : p < length firsts) where
    -- an entry that no cite cites
    pub found-same : None ≡ get_or firsts p None → cites_at cites places ≡ filter_map first_of (take (k + 1) order)
    found-same none = filter_map-same first_of order k p next here (none-first firsts are p within none) found

    -- an entry with its first cite
    pub found-more : (at : Place) (more : List Place) → Some at ≡ get_or firsts p (Some at) → more ≡ places ++ at ∷ [] → cites_at cites more ≡ filter_map first_of (take (k + 1) order)
    found-more at more some made =
        let there = some-first firsts are p within at some in
        filter_map-more first_of order k p there.0 next here there.2 found
        (ap (cites_at cites) made ∙ filter_map-append (λ w. option_map (λ (c : Request E P × ItemRender E P). c.1) (cite_at cites w)) places (at ∷ [])
        ∙ ap (λ o. cites_at cites places ++ cons_option o []) (cite-item at ∙ there.1))

  module _ (laws : IsEquivalence eq) where
    -- equal entries have the same first cite
    same-first : (items : List (ItemRender E P)) (e d : E) → eq e d ≡ true → find (λ i. eq e i.entry) items ≡ find (λ i. eq d i.entry) items
    same-first [] e d h = refl
    same-first (i ∷ items) e d h = rw (laws.congr e d i.entry h, same-first items e d h) refl

    at-place : (es : List E) (e : E) → is_in eq e es ≡ true → (d : E) × (slice_get es (place eq e es) ≡ Some d) × (eq e d ≡ true)
    at-place [] e h = absurd (none h)
      where
        none : false ≡ true → ⊥
        none q = cc
    at-place (x ∷ xs) e h = by (eq e x) refl h (at-place xs e)
      where
        by : (b : Bool) → eq e x ≡ b → (b || is_in eq e xs) ≡ true
            → (is_in eq e xs ≡ true → (d : E) × (slice_get xs (place eq e xs) ≡ Some d) × (eq e d ≡ true)) → (d : E) × (slice_get (x ∷ xs) (cond (not b) (1 + place eq e xs) 0) ≡ Some d) × (eq e d ≡ true)
        by true q r more = (x, refl, q)
        by false q r more =
            let found = more r in
            let next : 1 + place eq e xs ≡ suc (place eq e xs) = omega arith in
            (found.0, ap (slice_get (x ∷ xs)) next ∙ found.1, found.2)

    -- that of an entry is found by its place
    pub own-first : (e : E) → is_in eq e entries ≡ true → first_of (place eq e entries) ≡ first_item eq cites e
    own-first e inside =
        let there = at-place entries e inside in
        ap (option_and_then (first_item eq cites)) there.1 ∙ sym (same-first (items_finally cites) e there.0 there.2)

    -- those of entries that are listed by their places
    pub first-cites : (order : List E) → ((e : E) → is_in eq e order ≡ true → is_in eq e entries ≡ true)
        → filter_map first_of (map (λ e. place eq e entries) order) ≡ filter_map (first_item eq cites) order
    first-cites [] h = refl
    first-cites (e ∷ order) h =
        let own : is_in eq e (e ∷ order) ≡ true = rw (laws.refl e) refl in
        λ i. cons_option (own-first e (h e own) i) (first-cites order rest i)
      where
        rest : (d : E) → is_in eq d order ≡ true → is_in eq d entries ≡ true
        rest d inside = h d (or_right (eq d e) (is_in eq d order) inside)
