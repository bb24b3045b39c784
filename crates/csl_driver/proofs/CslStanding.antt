-- Cites in the final order, and as they are arranged, are those of the requests, know where their entries stand, and cite the entries of the table.
use Rattle.std.proofs.Common.{◌≡◌, ℕ, suc, Bool, List, [], ◌∷◌, ◌++◌, All, length, map, refl, ap, sym, subst, ◌∙◌}
use Rattle.std.specs.Cmp.{IsEquivalence}
use Rattle.std.specs.List.{AllZip, zip}
use Rattle.std.proofs.lemmas.List.{length-map}
use Rattle.std.proofs.lemmas.List.Elements.{All-cons, All-head, All-tail}
use Rattle.mentions_arranging.specs.Requests.{Request as Arranged}
use Rattle.mentions_arranging.specs.declared.arranged.ArrangedCite.{ArrangedCite}
use Rattle.mentions_arranging.specs.declared.request.FinalCite.{FinalCite}
use Rattle.csl_driver.specs.Answer.{Job}
use Rattle.csl_driver.specs.AreCitesOf.{AreCitesOf}
use Rattle.csl_driver.specs.CslAnswer.{cite_notes}
use Rattle.csl_driver.proofs.CslCounts.{notes-counted}
use Rattle.csl_driver.proofs.CslOnce.{AreWhole}
use Rattle.driver_entries.specs.Entries.{is_in}
use Rattle.driver_entries.specs.PlacedItems.{ArePlaced, IsPlaced}
use Rattle.driver_entries.specs.Table.{Table, table_of}
use Rattle.driver_passes.specs.Renders.{CiteRender, ItemRender}
use Rattle.driver_lookup.specs.Properties.{LocatorValue}
use Rattle.driver_passes.specs.Request.{Request}
use Rattle.driver_positions.specs.FinalProperties.{cited_finally}
use Rattle.value_styles.specs.Style.{CitationValue}
use Rattle.mentions_tables.specs.Steps.{all_changed}
use Rattle.mentions_cites.specs.Arranging.{arranged_by, arranged_finally, arranged_request}
use Rattle.mentions_cites.specs.Cites.{ToldValue, told_cites}
use Rattle.mentions_cites.proofs.Standing.{told-of, told-placed, told-same}

-- in the final order
module _ {E P : Type 0} (eq : E → E → Bool) (job : Job E P) where
  -- an order in which each cite of a request stands once has as many requests
  as-many-whole : (rs : List (Request E P)) (fs : List (Arranged (FinalCite (LocatorValue P)))) → AreWhole rs fs → length fs ≡ length rs
  as-many-whole [] [] h = refl
  as-many-whole [] (f ∷ fs) h = absurd h
  as-many-whole (r ∷ rs) [] h = absurd h
  as-many-whole (r ∷ rs) (f ∷ fs) h = ap suc (as-many-whole rs fs h.1)

  pub told-stand : IsEquivalence eq → (table : Table E) → table ≡ table_of eq job.requests → (told : ToldValue) (finals : List (Arranged (FinalCite (LocatorValue P)))) → AreWhole job.requests finals
      → AreCitesOf eq table job.requests (told_cites told job.requests (cite_notes eq job) finals)
  told-stand laws table is told finals whole =
      let requests = job.requests in
      let notes = cite_notes eq job in
      let cites = told_cites told requests notes finals in
      let counts = notes-counted eq job in
      let as_many : length notes ≡ length requests = sym (length-map notes length) ∙ ap length counts ∙ length-map requests (λ r. length r.cites) in
      let in_order : length finals ≡ length requests = as-many-whole requests finals whole in
      record {
        of = told-of told requests notes finals as_many in_order;
        placed = subst (λ (t : Table E). ArePlaced eq t cites) (sym is) (told-placed told eq requests notes finals as_many in_order);
        same = λ e. told-same told eq laws requests notes finals counts whole e ∙ sym (ap (λ (t : Table E). is_in eq e t.entries) is);
      }

module _ {E P L : Type 0} (numbers : List ℕ) where
  requests-stay : (zs : List (Arranged (FinalCite L) × List ArrangedCite)) (cs : List (CiteRender E P)) → map (λ c. c.request) (all_changed (arranged_request numbers) zs cs) ≡ map (λ c. c.request) cs
  requests-stay [] cs = refl
  requests-stay (z ∷ zs) [] = refl
  requests-stay (z ∷ zs) (c ∷ cs) = ap (λ rs. c.request ∷ rs) (requests-stay zs cs)

  entries-stay : (citation : CitationValue) (zs : List (FinalCite L × ArrangedCite)) (items : List (ItemRender E P)) → map (λ i. i.entry) (all_changed (arranged_by numbers citation) zs items) ≡ map (λ i. i.entry) items
  entries-stay citation [] items = refl
  entries-stay citation (z ∷ zs) [] = refl
  entries-stay citation (z ∷ zs) (i ∷ items) = ap (λ es. i.entry ∷ es) (entries-stay citation zs items)

  cited-stay : (zs : List (Arranged (FinalCite L) × List ArrangedCite)) (cs : List (CiteRender E P)) → cited_finally (all_changed (arranged_request numbers) zs cs) ≡ cited_finally cs
  cited-stay [] cs = refl
  cited-stay (z ∷ zs) [] = refl
  cited-stay (z ∷ zs) (c ∷ cs) = λ i. entries-stay c.request.style.citation (zip z.0.cites z.1) c.items i ++ cited-stay zs cs i

  module _ (eq : E → E → Bool) (entries : List E) where
    items-placed : (places : List ℕ) (citation : CitationValue) (zs : List (FinalCite L × ArrangedCite)) (items : List (ItemRender E P)) → All (IsPlaced eq entries places) items
        → All (IsPlaced eq entries places) (all_changed (arranged_by numbers citation) zs items)
    items-placed places citation [] items h = h
    items-placed places citation (z ∷ zs) [] h = h
    items-placed places citation (z ∷ zs) (i ∷ items) h =
        All-cons (IsPlaced eq entries places) (arranged_by numbers citation z i) (all_changed (arranged_by numbers citation) zs items) (All-head (IsPlaced eq entries places) i items h)
        (items-placed places citation zs items (All-tail (IsPlaced eq entries places) i items h))

    rows-placed : (ps : List (List ℕ)) (zs : List (Arranged (FinalCite L) × List ArrangedCite)) (cs : List (CiteRender E P)) → AllZip (λ places c. All (IsPlaced eq entries places) c.items) ps cs
        → AllZip (λ places c. All (IsPlaced eq entries places) c.items) ps (all_changed (arranged_request numbers) zs cs)
    rows-placed ps [] cs h = h
    rows-placed ps (z ∷ zs) [] h = h
    rows-placed [] (z ∷ zs) (c ∷ cs) h = h
    rows-placed (p ∷ ps) (z ∷ zs) (c ∷ cs) h = (items-placed p c.request.style.citation (zip z.0.cites z.1) c.items h.0, rows-placed ps zs cs h.1)

  pub arranged-stand : (eq : E → E → Bool) (table : Table E) (requests : List (Request E P)) (fs : List (Arranged (FinalCite L))) (xs : List (List ArrangedCite)) (cites : List (CiteRender E P))
      → AreCitesOf eq table requests cites → AreCitesOf eq table requests (arranged_finally numbers fs xs cites)
  arranged-stand eq table requests fs xs cites h = record {
    of = requests-stay (zip fs xs) cites ∙ h.of;
    placed = rows-placed eq table.entries table.places (zip fs xs) cites h.placed;
    same = λ e. ap (is_in eq e) (cited-stay (zip fs xs) cites) ∙ h.same e;
  }
