-- The rounds in which cites that read alike are disambiguated: the tables of states from the first
-- on.
use Rattle.std.specs.Prelude.{ℕ, zero, suc, ◌+◌, ◌-◌, ◌*◌, Bool, List, [], ◌∷◌, length, map, slice_index_or, take, Option, Some, None, if◌then◌else◌}
use Rattle.std.specs.List.{flat_map}
use Rattle.value_sources.specs.declared.names.NameDisambiguationProperties.{NameDisambiguationProperties}
use Rattle.driver_entries.specs.Entries.{distinct}
use Rattle.rounds_names.specs.NamedCites.{greatest}
use Rattle.driver_passes.specs.Renders.{CiteRender}
use Rattle.rounds_runs.specs.RoundMarks.{Mark, has_any, round_marks}
use Rattle.rounds_runs.specs.Rounds.{StateTable, again_tasks, at_table, entries_cited, mark_of, no_states, with_marks}
use Rattle.rounds_runs.specs.declared.mode.RoundMode.{RoundMode}
use Rattle.driver_writers.specs.Tasks.{TaskValue}
use Rattle.driver_writers.specs.Writing.{Writing}

-- how many forms there are
abbrev pub form_count : Option NameDisambiguationProperties → ℕ
form_count None = 0
form_count (Some names) = length names.forms

-- the most forms of a first name of any cite
abbrev pub most_forms : {E P : Type 0} → List (CiteRender E P) → ℕ
most_forms cites = greatest (map (λ i. form_count i.first_name) (flat_map (λ c. c.items) cites))

module _ {E P : Type 0} (mode : RoundMode) (eq : E → E → Bool) (writing : Writing E P)
    (firsts : List (CiteRender E P)) where
  -- the marks of the round that begins with this table
  abbrev pub marks_at : StateTable E → List Mark
  marks_at table = round_marks mode eq writing.answers (at_table writing table firsts)

  -- what it marks
  abbrev pub marked_at : StateTable E → StateTable E
  marked_at table = mark_of eq (at_table writing table firsts) (marks_at table)

  -- the tables from this one on: one more behind each round that marks, in so many rounds at most
  unfoldable pub tables_from : ℕ → StateTable E → List (StateTable E)
  tables_from zero table = table ∷ []
  tables_from (suc n) table = if has_any (marks_at table)
      then table ∷ tables_from n (with_marks (marked_at table) table) else table ∷ []

-- in mode three rounds end with the third; in mode full they end by themselves, since each that
-- marks raises the state of some entry, and states can't be raised more often than this
abbrev pub most_rounds : {E P : Type 0} → RoundMode → (E → E → Bool) → List (CiteRender E P) → ℕ
most_rounds RoundMode.Three eq firsts = 3
most_rounds RoundMode.Full eq firsts =
    length (distinct eq (entries_cited firsts)) * (3 * most_forms firsts + 3)

-- the last of the tables, behind which no round marked
abbrev pub last_table : {E : Type 0} → List (StateTable E) → StateTable E
last_table tables = slice_index_or tables (length tables - 1) no_states

module _ {E P : Type 0} (mode : RoundMode) (eq : E → E → Bool) (writing : Writing E P)
    (firsts : List (CiteRender E P)) where
  -- the tables, from the empty one to the last
  abbrev pub tables : List (StateTable E)
  tables = tables_from mode eq writing firsts (most_rounds mode eq firsts) no_states

  -- how many rounds marked
  abbrev pub rounds : ℕ
  rounds = length tables - 1

  -- what they marked
  abbrev pub round_tables : List (StateTable E)
  round_tables = map (marked_at mode eq writing firsts) (take rounds tables)

  -- what they ask for: in each that marks, the cites whose entries it marks, with the new states
  abbrev pub round_tasks : List (TaskValue E P)
  round_tasks = flat_map (λ t. again_tasks (marked_at mode eq writing firsts t)
      (at_table writing t firsts)) (take rounds tables)

  -- the states that the entries have after them
  abbrev pub last_states : StateTable E
  last_states = last_table tables

-- the first renders, rendered again with the states that tell their entries apart after all rounds
unfoldable pub disambiguated : {E P : Type 0} → RoundMode → (E → E → Bool) → Writing E P
    → List (CiteRender E P) → List (CiteRender E P)
disambiguated mode eq writing firsts = at_table writing (last_states mode eq writing firsts) firsts
