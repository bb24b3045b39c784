-- The rows of the table are looked up one after another.
use Rattle.serde_json.specs.View.{view}
use Rattle.document_values.specs.Words.{list_form}
use Rattle.document_requests.specs.Entries.{person_form}
use Rattle.document_requests.proofs.Rows.{RowsProgress}
use Rattle.document_requests.proofs.entries.names_in.Given as goal

abbrev pub invariant-loop-row : goal.invariant-loop-row
invariant-loop-row l = RowsProgress (list_form person_form) (view l.object) l.rows l.row-index l.pairs.items
