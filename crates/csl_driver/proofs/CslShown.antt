-- What a citation shows of which cites without content are left out.
use Rattle.std.proofs.Common.{◌≡◌, ℕ, ◌+◌, Bool, true, false, cond, List, [], ◌∷◌, filter, map, refl, ap, ◌∙◌}
use Rattle.std.specs.List.{enumerate_from}
use Rattle.driver_assembly.specs.Assembly.{Shown}
use Rattle.driver_assembly.specs.CitationTree.{shown, shown_cite}
use Rattle.driver_assembly.specs.WithoutEmpty.{citation_without_empty, has_something}
use Rattle.csl_driver.specs.AnswerLaws.{places_of}
use Rattle.csl_driver.specs.CslAnswer.{told_citation, told_citations}
use Rattle.csl_driver.specs.CslCitations.{cites_seen}
use Rattle.csl_driver.specs.ShownEntries.{entries_shown}
use Rattle.csl_driver.proofs.ShownTrees.{all_shown, assembled-shown}
use Rattle.driver_lookup.specs.Lookup.{Source}
use Rattle.driver_passes.specs.Purposes.{has_no_purpose}
use Rattle.driver_passes.specs.Renders.{CiteRender, ItemRender}
use Rattle.driver_passes.specs.Request.{source_of}
use Rattle.value_styles.specs.Style.{LayoutValue}
use Rattle.driver_writers.specs.Writing.{Writing}

module _ {E P : Type 0} (writing : Writing E P) where
  module _ (r : ℕ) (source : Source) (layout : LayoutValue) where
    abbrev tree_of : ItemRender E P → Shown
    tree_of = shown_cite writing r source layout

    cites-seen : (items : List (ItemRender E P)) → all_shown (filter has_something (map tree_of items)) ≡ places_of (filter (λ i. has_something (tree_of i)) items)
    cites-seen [] = refl
    cites-seen (i ∷ items) = by (has_something (tree_of i)) (cites-seen items)
      where
        by : (b : Bool) → all_shown (filter has_something (map tree_of items)) ≡ places_of (filter (λ i. has_something (tree_of i)) items)
            → all_shown (cond b (tree_of i ∷ filter has_something (map tree_of items)) (filter has_something (map tree_of items)))
            ≡ places_of (cond b (i ∷ filter (λ i. has_something (tree_of i)) items) (filter (λ i. has_something (tree_of i)) items))
        by true more = ap (λ l. i.properties.certain.initial_idx ∷ l) more
        by false more = more

  citation-seen : (r : ℕ) (c : CiteRender E P) → entries_shown (citation_without_empty writing r c) ≡ places_of (cites_seen writing r c)
  citation-seen r c =
      let layout : LayoutValue = c.request.style.citation.layout in
      assembled-shown (has_no_purpose c.items) layout (filter has_something (map (tree_of r (source_of c.request) layout) (shown c.items)))
      ∙ cites-seen r (source_of c.request) layout (shown c.items)

  seen-from : (n : ℕ) (cites : List (CiteRender E P))
      → map (λ c. entries_shown c.citation) (map (λ c. told_citation writing c.0 c.1) (enumerate_from n cites)) ≡ map (λ p. places_of (cites_seen writing p.0 p.1)) (enumerate_from n cites)
  seen-from n [] = refl
  seen-from n (c ∷ cs) = λ i. citation-seen n c i ∷ seen-from (n + 1) cs i

  -- each citation shows the cites of its request that aren't hidden, and of which there is something to see
  pub citations-seen : (cites : List (CiteRender E P)) → map (λ c. entries_shown c.citation) (told_citations writing cites) ≡ map (λ p. places_of (cites_seen writing p.0 p.1)) (enumerate_from 0 cites)
  citations-seen cites = seen-from 0 cites
