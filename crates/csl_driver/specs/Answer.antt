-- The whole answer, from the whole list of requests.
use Rattle.std.specs.Prelude.{ℕ, Bool, List, map, Option, None, Some, if◌then◌else◌, is_some, option_map}
use Rattle.std.specs.List.{enumerate_from, filter_map}
use Rattle.driver_assembly.specs.BibliographyItems.{bibliography_of}
use Rattle.driver_assembly.specs.CitationTree.{citation_tree}
use Rattle.driver_assembly.specs.declared.rendered.Rendered.{Rendered}
use Rattle.driver_assembly.specs.declared.rendered.RenderedCitation.{RenderedCitation}
use Rattle.rounds_grouping.specs.Collapsed.{collapsed_finally}
use Rattle.driver_entries.specs.Entries.{bibliography_order, distinct, number}
use Rattle.rounds_grouping.specs.Blocks.{grouped}
use Rattle.driver_passes.specs.Renders.{CiteRender, ItemRender}
use Rattle.driver_passes.specs.Request.{Request, Wanted, cited, wanted_source}
use Rattle.driver_positions.specs.FinalProperties.{cited_finally, first_item, with_final_properties}
use Rattle.driver_positions.specs.FirstProperties.{first_properties}
use Rattle.rounds_runs.specs.FirstRenders.{first_renders}
use Rattle.rounds_runs.specs.Tables.{disambiguated}
use Rattle.rounds_runs.specs.declared.mode.RoundMode.{RoundMode}
use Rattle.driver_writers.specs.Writing.{Writing}

-- what a driver is asked: what is wanted of the bibliography, the requests, and the offset, which
-- is the number of the first entry
pub record Job (E P : Type 0) : Type 0 where
  pub wanted : Wanted E
  pub requests : List (Request E P)
  pub offset : ℕ

-- the order that the bibliography goes by, if it goes by one
abbrev pub used_order : {E : Type 0} → Wanted E → Option (List E)
used_order wanted = if is_some wanted.style.bibliography then wanted.order else None

module _ {E P : Type 0} (eq : E → E → Bool) where
  -- the bibliography's entries
  abbrev pub entries_listed : Wanted E → List (Request E P) → List E
  entries_listed wanted requests = bibliography_order eq (used_order wanted) (cited requests)

  -- the entries by which the final numbers go: the bibliography's where an order is used, else
  -- those of the cites in their final order
  abbrev pub numbered_finally : Option (List E) → List (Request E P)
      → List (CiteRender E P) → List E
  numbered_finally used requests cites =
      if is_some used then bibliography_order eq used (cited requests)
      else distinct eq (cited_finally cites)

module _ {E P : Type 0} (writing : Writing E P) where
  -- the answer to the r-th request, from its collapsed cites
  abbrev pub citation_of : ℕ → CiteRender E P → RenderedCitation
  citation_of r c =
      record { note_number = c.request.note_number; citation = citation_tree writing r c }

  -- the answers to all
  abbrev pub citations_of : List (CiteRender E P) → List RenderedCitation
  citations_of cites = map (λ c. citation_of c.0 c.1) (enumerate_from 0 cites)

module _ {E P : Type 0} (eq : E → E → Bool) (payload_eq : P → P → Bool)
    (writing : Writing E P) where
  -- the cites of all requests, rendered by their first properties; their numbers are those of the
  -- bibliography
  abbrev pub rendered_first : Job E P → List (CiteRender E P)
  rendered_first job =
      let listed = entries_listed eq job.wanted job.requests in
      first_renders writing job.requests
      (first_properties eq payload_eq (number eq job.offset listed) job.requests)

  module _ (mode : RoundMode) (job : Job E P) where
    -- the cites in their final order: disambiguated, and those of each request in their blocks
    abbrev pub in_final_order : List (CiteRender E P)
    in_final_order = map grouped (disambiguated mode eq writing (rendered_first job))

    -- the number of an entry in the end
    abbrev pub final_number : E → ℕ
    final_number = number eq job.offset
        (numbered_finally eq (used_order job.wanted) job.requests in_final_order)

    -- the cites with their final positions and numbers
    abbrev pub in_the_end : List (CiteRender E P)
    in_the_end = with_final_properties eq payload_eq final_number in_final_order

    -- the first cites, in the final order, of the bibliography's entries
    abbrev pub listed_first_cites : List (ItemRender E P)
    listed_first_cites = filter_map (first_item eq in_the_end)
        (entries_listed eq job.wanted job.requests)

    -- the whole answer: one citation for each request, and the bibliography where the style that
    -- was asked for has one
    abbrev pub rendered : Rendered
    rendered = record {
      bibliography = option_map
          (λ b. bibliography_of writing (wanted_source job.wanted) b listed_first_cites)
          job.wanted.style.bibliography;
      citations = citations_of writing (map collapsed_finally in_the_end);
    }
