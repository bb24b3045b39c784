-- The rows of the table are looked up one after another.
use Rattle.serde_json.specs.View.{view}
use Rattle.serde_json.specs.Find.{as_str}
use Rattle.document_requests.proofs.Rows.{RowsProgress}
use Rattle.document_requests.proofs.entries.numbers_in.Given as goal

abbrev pub invariant-loop-row : goal.invariant-loop-row
invariant-loop-row l = RowsProgress as_str (view l.object) l.rows l.row-index l.pairs.items
