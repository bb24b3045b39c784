-- What a writer is asked for where a driver answers.
use Rattle.std.specs.Prelude.{Bool, List, [], ◌++◌, Option, None, Some, map}
use Rattle.std.specs.List.{enumerate_from, flat_map}
use Rattle.driver_assembly.specs.BibliographyItems.{bibliography_tasks}
use Rattle.driver_assembly.specs.CitationTree.{citation_tasks}
use Rattle.rounds_grouping.specs.Collapsed.{collapsed_finally}
use Rattle.csl_driver.specs.Answer.{Job, entries_listed, listed_first_cites, in_the_end, rendered_first}
use Rattle.driver_entries.specs.Entries.{number}
use Rattle.driver_passes.specs.Renders.{CiteRender}
use Rattle.driver_passes.specs.Request.{wanted_source}
use Rattle.driver_positions.specs.FirstProperties.{first_properties}
use Rattle.rounds_runs.specs.FirstRenders.{first_tasks}
use Rattle.rounds_runs.specs.Tables.{round_tasks}
use Rattle.rounds_runs.specs.declared.mode.RoundMode.{RoundMode}
use Rattle.driver_writers.specs.Tasks.{TaskValue}
use Rattle.driver_writers.specs.Writing.{Writing}

-- these where there is a bibliography
abbrev pub where_wanted : {B X : Type 0} → Option B → List X → List X
where_wanted None tasks = []
where_wanted (Some b) tasks = tasks

-- for all citations, from the cites as they stand in the end
abbrev pub last_tasks : {E P : Type 0} → List (CiteRender E P) → List (TaskValue E P)
last_tasks cites = flat_map (λ c. citation_tasks c.0 c.1) (enumerate_from 0 cites)

module _ {E P : Type 0} (eq : E → E → Bool) (payload_eq : P → P → Bool) where
  -- where the cites are rendered first
  abbrev pub begun_tasks : Job E P → List (TaskValue E P)
  begun_tasks job = first_tasks job.requests (first_properties eq payload_eq
      (number eq job.offset (entries_listed eq job.wanted job.requests)) job.requests)

  module _ (writing : Writing E P) (mode : RoundMode) (job : Job E P) where
    -- where the bibliography is written
    abbrev pub listed_tasks : List (TaskValue E P)
    listed_tasks = where_wanted job.wanted.style.bibliography
        (bibliography_tasks (wanted_source job.wanted)
        (listed_first_cites eq payload_eq writing mode job))

    -- all that is asked for: the first renders, those of the rounds, the bibliography, the
    -- citations
    abbrev pub tasks : List (TaskValue E P)
    tasks = begun_tasks job
        ++ (round_tasks mode eq writing (rendered_first eq payload_eq writing job)
        ++ (listed_tasks ++ last_tasks
        (map collapsed_finally (in_the_end eq payload_eq writing mode job))))
