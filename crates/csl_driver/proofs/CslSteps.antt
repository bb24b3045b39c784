-- An answer in which works are told apart as CSL 1.0.2 has it, from its three steps: mentions, bibliography and citations.
use Rattle.std.proofs.Common.{◌≡◌, ℕ, Bool, List, ◌++◌, Option, ap, ◌∙◌}
use Rattle.std.specs.Prelude.{option_map}
use Rattle.value_sources.specs.Answers.{Answers}
use Rattle.mentions_arranging.specs.Arranged.{arranged_cites}
use Rattle.mentions_arranging.specs.Requests.{Request as Arranged}
use Rattle.mentions_arranging.specs.declared.request.FinalCite.{FinalCite}
use Rattle.driver_assembly.specs.ByMeans.{bibliography_by_means}
use Rattle.driver_assembly.specs.declared.rendered.Rendered.{Rendered}
use Rattle.driver_assembly.specs.declared.rendered.RenderedBibliography.{RenderedBibliography}
use Rattle.driver_assembly.specs.declared.rendered.RenderedCitation.{RenderedCitation}
use Rattle.mentions_cited.specs.declared.kept.KeptOfMention.{KeptOfMention}
use Rattle.csl_driver.specs.Answer.{Job}
use Rattle.csl_driver.specs.CslAnswer.{cites_arranged, cites_in_order, item_means, listed, listed_cites, numbers_in_the_end, ordered, rendered_csl, same_locator, told_citations, told_first_cites}
use Rattle.csl_driver.specs.CslParts.{AreToldApart}
use Rattle.csl_driver.specs.JobView.{job_of, job_view}
use Rattle.csl_driver.specs.declared.driver.BibliographyDriver.{BibliographyDriver}
use Rattle.driver_lookup.specs.Properties.{LocatorValue}
use Rattle.driver_passes.specs.Renders.{CiteRender}
use Rattle.driver_passes.specs.Request.{wanted_source}
use Rattle.driver_passes.specs.declared.request.BibliographyRequest.{BibliographyRequest}
use Rattle.driver_passes.specs.declared.request.CitationRequest.{CitationRequest}
use Rattle.mentions_tables.specs.declared.tables.Told.{Told}
use Rattle.mentions_cites.specs.Arranging.{arranged_finally}
use Rattle.driver_writers.specs.Desk.{Desk, after}
use Rattle.driver_writers.specs.Tasks.{TaskValue}
use Rattle.driver_writers.specs.Writing.{Writing, writing_of}
use Rattle.driver_writers.proofs.TasksDone.{after-then, writes-same}

module _ {E P N : Type 0} (answers : E → Answers) (first items last : List (TaskValue E P)) (start told written end : Desk E P N)
    (told_is : told ≡ after first start) (written_is : written ≡ after items told) (end_is : end ≡ after last written) where
  -- all that is asked for
  pub three-steps : end ≡ after (first ++ (items ++ last)) start
  three-steps = after-then first (items ++ last) start told end told_is (after-then items last told written end written_is end_is)

  -- the writer writes the same at the last step
  pub same-behind : writing_of answers written.writer ≡ writing_of answers start.writer
  same-behind = writes-same answers items told written written_is ∙ writes-same answers first start told told_is

-- the cites as they are arranged, from the final order and the numbers
pub arranged-told : {E P : Type 0} (eq : E → E → Bool) (payload_eq : P → P → Bool) (writing : Writing E P) (job : Job E P) {before now : List (CiteRender E P)} {finals : List (Arranged (FinalCite (LocatorValue P)))} {numbers : List ℕ}
    → before ≡ cites_in_order eq job writing payload_eq → finals ≡ ordered eq job writing payload_eq → numbers ≡ numbers_in_the_end eq job writing payload_eq
    → now ≡ arranged_finally numbers finals (arranged_cites (same_locator payload_eq) numbers finals) before → now ≡ cites_arranged eq job writing payload_eq
arranged-told eq payload_eq writing job before_is finals_are numbers_are is =
    is ∙ (λ i. arranged_finally (numbers_are i) (finals_are i) (arranged_cites (same_locator payload_eq) (numbers_are i) (finals_are i)) (before_is i))

module _ {E P : Type 0} (eq : E → E → Bool) (payload_eq : P → P → Bool) (writing : Writing E P) (job : Job E P) {t : Told KeptOfMention} {cites : List (CiteRender E P)}
    (apart : AreToldApart eq job writing t) (arranged : cites ≡ cites_arranged eq job writing payload_eq) where
  -- the first cites of the bibliography's entries, with their means
  pub same-firsts : listed_cites eq (item_means t.states.items t.suffixes.items) cites (listed eq job) ≡ told_first_cites eq job writing payload_eq
  same-firsts = λ i. listed_cites eq (item_means (apart.states i) (apart.suffixes i)) (arranged i) (listed eq job)

  -- the whole answer, put together
  pub whole-csl : {citations : List RenderedCitation} {bibliography : Option RenderedBibliography} → citations ≡ told_citations writing cites
      → bibliography ≡ option_map (λ b. bibliography_by_means writing (wanted_source job.wanted) b (listed_cites eq (item_means t.states.items t.suffixes.items) cites (listed eq job))) job.wanted.style.bibliography
      → let r : Rendered = record { bibliography = bibliography; citations = citations } in r ≡ rendered_csl eq job writing payload_eq
  whole-csl {citations} {bibliography} made items = λ i. record { bibliography = all_items i; citations = all_made i }
    where
      all_made : citations ≡ told_citations writing (cites_arranged eq job writing payload_eq)
      all_made = made ∙ ap (told_citations writing) arranged

      all_items : bibliography ≡ option_map (λ b. bibliography_by_means writing (wanted_source job.wanted) b (told_first_cites eq job writing payload_eq)) job.wanted.style.bibliography
      all_items = items ∙ ap (λ fs. option_map (λ b. bibliography_by_means writing (wanted_source job.wanted) b fs) job.wanted.style.bibliography) same-firsts

-- what a driver is asked, from the parts of a draft
pub same-job : {T P : Type 0} (driver : BibliographyDriver T P) (asked : BibliographyRequest T) {requests : List (CitationRequest T P)} {offset : ℕ} {wanted : BibliographyRequest T}
    → requests ≡ driver.citations.items → offset ≡ driver.citation_number_offset → wanted ≡ asked → job_view requests offset wanted ≡ job_of driver asked
same-job driver asked of_driver from_offset as_asked = λ i. job_view (of_driver i) (from_offset i) (as_asked i)
