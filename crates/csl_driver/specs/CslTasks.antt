-- What a writer is asked for where works are told apart as CSL 1.0.2 has it.
use Rattle.std.specs.Prelude.{Bool, List, ◌++◌, flat_map, map}
use Rattle.driver_assembly.specs.ByMeans.{tasks_by_means}
use Rattle.mentions_cited.specs.Cited.{task_again}
use Rattle.mentions_groups.specs.declared.state.MentionState.{MentionState}
use Rattle.driver_passes.specs.Request.{wanted_source}
use Rattle.mentions_tables.specs.Tables.{all_tasks}
use Rattle.driver_writers.specs.Tasks.{CiteTaskValue, TaskValue, cite_task}
use Rattle.driver_writers.specs.Writing.{Writing}
use Rattle.driver_writers.specs.declared.cite.Cite.{Cite}
use Rattle.csl_driver.specs.Answer.{Job}
use Rattle.csl_driver.specs.CslAnswer.{cites_arranged, mentions, read, repeated_cites, repeated_firsts, tasks_repeated, told_first_cites}
use Rattle.csl_driver.specs.WriterTasks.{last_tasks, where_wanted}

-- a mention in a state, as the cite that is written then
abbrev pub state_task : {E P : Type 0} → (CiteTaskValue E P → Cite)
    → CiteTaskValue E P × MentionState → TaskValue E P
state_task cite p = cite_task (task_again cite p.0 p.1)

module _ {E P : Type 0} (eq : E → E → Bool) (job : Job E P) (writing : Writing E P) where
  -- where mentions are told apart: each, and again those that names or the choice changed
  abbrev pub mention_tasks : List (TaskValue E P)
  mention_tasks =
      map (state_task writing.cite) (all_tasks (read eq job writing) (mentions eq job))

  module _ (payload_eq : P → P → Bool) where
    -- where the bibliography is written
    abbrev pub told_item_tasks : List (TaskValue E P)
    told_item_tasks = where_wanted job.wanted.style.bibliography
        (tasks_by_means (wanted_source job.wanted) (told_first_cites eq job writing payload_eq))

    -- where cites repeat mentions: the first ones of requests, and then all in their final order
    abbrev pub repeat_cite_tasks : List (TaskValue E P)
    repeat_cite_tasks =
        map cite_task (tasks_repeated eq job writing (repeated_firsts eq job writing payload_eq))
        ++ map cite_task (flat_map (tasks_repeated eq job writing)
        (repeated_cites eq job writing payload_eq))

    -- where cites are put in order: mentions, alone and as cites repeat them
    abbrev pub order_tasks : List (TaskValue E P)
    order_tasks = mention_tasks ++ repeat_cite_tasks

    -- all that is asked for: these, the bibliography, the citations
    abbrev pub csl_tasks : List (TaskValue E P)
    csl_tasks = order_tasks
        ++ (told_item_tasks ++ last_tasks (cites_arranged eq job writing payload_eq))
