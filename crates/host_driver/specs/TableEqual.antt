-- A table answers alike for entries that answer alike.
use Rattle.std.specs.Prelude.{◌≡◌, List, Option, Some, None}
use Rattle.std.proofs.Common.{ap}
use Rattle.value_sources.specs.Answers.{Answers}
use Rattle.host_memo.specs.Keys.{key_of_part, standing_of}
use Rattle.host_memo.specs.Written.{written_as}
use Rattle.host_driver.specs.Table.{table_state}
use Rattle.host_memo.specs.declared.key.TaskKey.{TaskKey}
use Rattle.host_memo.specs.declared.key.TaskPart.{TaskPart}
use Rattle.host_memo.specs.declared.key.TaskPart.TheVariants as parts
use Rattle.driver_writers.specs.Writing.{AreWrittenEqually}
use Rattle.driver_writers.specs.declared.cite.Cite.{Cite}

module _ {E P : Type 0} (table : TaskKey → Option Cite) (answers : E → Answers) where
  pub table_writes_equally : (missing : List TaskKey) (a b : E) → answers a ≡ answers b
      → AreWrittenEqually (table_state table {E = E} {P = P} answers missing) a b
  table_writes_equally missing a b e = record {
    cite = λ t. let part : TaskPart = parts.Cite (standing_of t.properties) t.purpose t.verdict in
        ap (λ (x : Answers). written_as (table (key_of_part t.source x.key t.place part))) e;
    item = λ t. let part : TaskPart = parts.Item (standing_of t.properties) in
        ap (λ (x : Answers). Some
        (written_as (table (key_of_part t.source x.key None part))).children) e;
    date = λ t. let part : TaskPart = parts.Date t.suffix in
        ap (λ (x : Answers). (written_as
        (table (key_of_part t.source x.key t.place part))).children) e;
  }
