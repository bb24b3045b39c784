-- What is written from a table, and what is noted.
use Rattle.std.specs.Prelude.{◌≡◌, ◌||◌, Bool, false, List, [], ◌∷◌, Option, None, Some, Contains, is_some, nat_lt}
use Rattle.std.specs.Bool.{if◌then◌else◌}
use Rattle.ordered_set.specs.Keys.{with_key}
use Rattle.value_sources.specs.Answers.{Answers}
use Rattle.host_memo.specs.Keys.{cite_key, date_key, item_key, stage, task_key}
use Rattle.host_memo.specs.Written.{key_eq, written_as}
use Rattle.host_memo.specs.declared.key.TaskKey.{TaskKey}
use Rattle.driver_writers.specs.Tasks.{TaskValue}
use Rattle.driver_writers.specs.Writing.{Writing, WriterState, writing_of}
use Rattle.driver_writers.specs.declared.cite.Cite.{Cite}

-- the first of these is of an earlier stage
abbrev pub is_later : List TaskKey → TaskKey → Bool
is_later [] key = false
is_later (first ∷ rest) key = nat_lt (stage first) (stage key)

-- the first of these is of a later stage
abbrev pub is_earlier : List TaskKey → TaskKey → Bool
is_earlier [] key = false
is_earlier (first ∷ rest) key = nat_lt (stage key) (stage first)

-- these, unless the first of them is of a later stage
abbrev pub kept_beside : TaskKey → List TaskKey → List TaskKey
kept_beside key notes = if is_earlier notes key then [] else notes

module _ (table : TaskKey → Option Cite) where
  -- what is lacked is noted once, beside what is of its stage, unless something of an earlier stage
  -- is noted
  abbrev pub note_once : TaskKey → List TaskKey → List TaskKey
  note_once key notes =
      if is_some (table key) || is_later notes key then notes
      else with_key key_eq (kept_beside key notes) key

  module _ {E P : Type 0} (answers : E → Answers) where
    abbrev pub table_state : List TaskKey → WriterState E P TaskKey
    table_state missing = record {
      cite = λ t. written_as (table (cite_key answers t));
      item = λ t. Some (written_as (table (item_key answers t))).children;
      date = λ t. (written_as (table (date_key answers t))).children;
      noting = λ task. note_once (task_key answers task);
      notes = missing;
    }

    abbrev pub table_writing : Writing E P
    table_writing = writing_of answers (table_state [])

    -- it is asked for, and the table lacks it
    pub record IsMissingOf (asked : List (TaskValue E P)) (key : TaskKey) : Type 0 where
      pub task : TaskValue E P
      pub among : Contains asked task
      pub is : key ≡ task_key answers task
      pub lacked : table key ≡ None
