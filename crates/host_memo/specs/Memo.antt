-- What a table says of how its texts are written.
use Rattle.std.specs.Prelude.{◌≡◌, List, Option, Some, None}
use Rattle.std.proofs.Common.{ap}
use Rattle.value_sources.specs.Answers.{Answers}
use Rattle.ordered_set.specs.Keys.{with_key}
use Rattle.host_memo.specs.Keys.{cite_key, date_key, item_key, key_of_part, standing_of, task_key}
use Rattle.host_memo.specs.Written.{key_eq, written_as}
use Rattle.host_memo.specs.declared.key.TaskKey.{TaskKey}
use Rattle.host_memo.specs.declared.key.TaskPart.{TaskPart}
use Rattle.host_memo.specs.declared.key.TaskPart.TheVariants as parts
use Rattle.driver_writers.specs.Tasks.{TaskValue}
use Rattle.driver_writers.specs.Writing.{AreWrittenEqually, WriterState, noted_all}
use Rattle.driver_writers.specs.declared.cite.Cite.{Cite}

-- what was written is what is written in this way
pub record Agrees (table : TaskKey → Option Cite) (way : TaskKey → Cite) : Type 0 where
  pub at : (key : TaskKey) (cite : Cite) → table key ≡ Some cite → way key ≡ cite

-- the second table has what the first has
pub record Grows (old new : TaskKey → Option Cite) : Type 0 where
  pub at : (key : TaskKey) (cite : Cite) → old key ≡ Some cite → new key ≡ Some cite

pub agrees_before : (old new : TaskKey → Option Cite) (way : TaskKey → Cite)
    → Grows old new → Agrees new way → Agrees old way
agrees_before old new way grown agrees = record {
  at = λ key cite e. agrees.at key cite (grown.at key cite e);
}

-- the way in which nothing is written but what the table has
abbrev pub way_in : (TaskKey → Option Cite) → TaskKey → Cite
way_in table key = written_as (table key)

pub agrees_in : (table : TaskKey → Option Cite) → Agrees table (way_in table)
agrees_in table = record { at = λ key cite e. ap written_as e }

-- the keys of tasks, once this one is noted too: each stands there once
abbrev pub key_noted : TaskKey → List TaskKey → List TaskKey
key_noted key keys = with_key key_eq keys key

-- the keys of these tasks, each once, in the order in which they are asked for; behind others
abbrev pub keys_noted : {E P : Type 0} → (E → Answers) → List (TaskValue E P) → List TaskKey
    → List TaskKey
keys_noted answers = noted_all (λ task. key_noted (task_key answers task))

module _ (way : TaskKey → Cite) {E P : Type 0} (answers : E → Answers) where
  -- a writer that writes in this way, and notes once what it is asked for
  abbrev pub way_state : List TaskKey → WriterState E P TaskKey
  way_state asked = record {
    cite = λ t. way (cite_key answers t);
    item = λ t. Some (way (item_key answers t)).children;
    date = λ t. (way (date_key answers t)).children;
    noting = λ task. key_noted (task_key answers task);
    notes = asked;
  }

  pub way_writes_equally : (asked : List TaskKey) (a b : E) → answers a ≡ answers b
      → AreWrittenEqually (way_state asked) a b
  way_writes_equally asked a b e = record {
    cite = λ t. let part : TaskPart = parts.Cite (standing_of t.properties) t.purpose t.verdict in
        ap (λ (x : Answers). way (key_of_part t.source x.key t.place part)) e;
    item = λ t. let part : TaskPart = parts.Item (standing_of t.properties) in
        ap (λ (x : Answers). Some (way (key_of_part t.source x.key None part)).children) e;
    date = λ t. let part : TaskPart = parts.Date t.suffix in
        ap (λ (x : Answers). (way (key_of_part t.source x.key t.place part)).children) e;
  }
