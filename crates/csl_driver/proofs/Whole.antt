-- The whole answer, put together.
use Rattle.std.proofs.Common.{◌≡◌, Bool, List, Option, map, ap, ◌∙◌}
use Rattle.std.specs.Prelude.{option_map}
use Rattle.std.specs.List.{filter_map}
use Rattle.driver_assembly.specs.BibliographyItems.{bibliography_of}
use Rattle.driver_assembly.specs.declared.rendered.Rendered.{Rendered}
use Rattle.driver_assembly.specs.declared.rendered.RenderedBibliography.{RenderedBibliography}
use Rattle.driver_assembly.specs.declared.rendered.RenderedCitation.{RenderedCitation}
use Rattle.rounds_grouping.specs.Collapsed.{collapsed_finally}
use Rattle.driver_writers.specs.Writing.{Writing}
use Rattle.csl_driver.specs.Answer.{Job, citations_of, entries_listed, in_the_end, rendered}
use Rattle.driver_passes.specs.Renders.{CiteRender}
use Rattle.driver_passes.specs.Request.{wanted_source}
use Rattle.driver_positions.specs.FinalProperties.{first_item}
use Rattle.rounds_runs.specs.declared.mode.RoundMode.{RoundMode}

module _ {E P : Type 0} (eq : E → E → Bool) (payload_eq : P → P → Bool) (writing : Writing E P) (mode : RoundMode) (job : Job E P)
    (settled drawn : List (CiteRender E P)) (in_end : settled ≡ in_the_end eq payload_eq writing mode job) (together : drawn ≡ map collapsed_finally settled) where
  pub whole : {citations : List RenderedCitation} {bibliography : Option RenderedBibliography} → citations ≡ citations_of writing drawn
      → bibliography ≡ option_map (λ b. bibliography_of writing (wanted_source job.wanted) b (filter_map (first_item eq settled) (entries_listed eq job.wanted job.requests))) job.wanted.style.bibliography
      → let r : Rendered = record { bibliography = bibliography; citations = citations } in r ≡ rendered eq payload_eq writing mode job
  whole {citations} {bibliography} cites items = λ i. record { bibliography = all_items i; citations = all_cites i }
    where
      last : List (CiteRender E P)
      last = in_the_end eq payload_eq writing mode job

      all_cites : citations ≡ citations_of writing (map collapsed_finally last)
      all_cites = cites ∙ ap (citations_of writing) (together ∙ ap (map collapsed_finally) in_end)

      all_items : bibliography ≡ option_map (λ b. bibliography_of writing (wanted_source job.wanted) b (filter_map (first_item eq last) (entries_listed eq job.wanted job.requests))) job.wanted.style.bibliography
      all_items =
          items
          ∙ ap (λ cs. option_map (λ b. bibliography_of writing (wanted_source job.wanted) b (filter_map (first_item eq cs) (entries_listed eq job.wanted job.requests))) job.wanted.style.bibliography) in_end
