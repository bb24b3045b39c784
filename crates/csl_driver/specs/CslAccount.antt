-- The account of an answer in which works are told apart as CSL 1.0.2 has it.
use Rattle.std.specs.Prelude.{ℕ, ◌+◌, Bool, true, false, not, List, [], ◌∷◌, find, length, if◌then◌else◌}
use Rattle.std.specs.List.{filter_map}
use Rattle.driver_entries.specs.Entries.{distinct}
use Rattle.mentions_groups.specs.declared.state.MentionState.{MentionState}
use Rattle.driver_passes.specs.Request.{cited, cites_of}
use Rattle.mentions_tables.specs.Tables.{all_tasks}
use Rattle.mentions_table_laws.specs.TellingLaws.{rounds_of}
use Rattle.driver_writers.specs.Writing.{Writing}
use Rattle.csl_driver.specs.Account.{listed_count}
use Rattle.csl_driver.specs.Answer.{Job}
use Rattle.csl_driver.specs.CslAnswer.{entry_suffixes, listed, mentions, read, states}
use Rattle.csl_driver.specs.CslTasks.{repeat_cite_tasks}

-- every second member, with the first one or without it
abbrev pub every_second : {X : Type 0} → Bool → List X → List X
every_second taken [] = []
every_second taken (x ∷ xs) =
    if taken then x ∷ every_second (not taken) xs else every_second (not taken) xs

-- the entries of the bibliography, each as it is cited first
abbrev pub entries_told : {E P : Type 0} → (E → E → Bool) → Job E P → List E
entries_told eq job =
    filter_map (λ e. find (eq e) (distinct eq (cited job.requests))) (listed eq job)

module _ {E P : Type 0} (eq : E → E → Bool) (job : Job E P) (writing : Writing E P) where
  abbrev pub csl_rounds : ℕ
  csl_rounds = rounds_of (states eq job writing) (entry_suffixes eq job writing)

  -- the renderings: those of mentions, alone and as cites repeat them; one for each cite, hidden
  -- or not; and one for each entry of the bibliography, where there is one
  abbrev pub csl_cost : (P → P → Bool) → ℕ
  csl_cost payload_eq = length (all_tasks (read eq job writing) (mentions eq job))
      + length (repeat_cite_tasks eq job writing payload_eq)
      + length (cites_of job.requests) + listed_count eq job.wanted job.requests

  -- the states of the first mentions of the entries, and those of their later ones
  abbrev pub first_states : List MentionState
  first_states = every_second true (states eq job writing)

  abbrev pub later_states : List MentionState
  later_states = every_second false (states eq job writing)
