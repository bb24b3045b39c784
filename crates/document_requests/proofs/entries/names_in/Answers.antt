-- One more row was looked up.
use Rattle.serde_json.specs.View.{view}
use Rattle.document_values.specs.Words.{list_form}
use Rattle.document_requests.specs.Entries.{person_form}
use Rattle.document_requests.proofs.Rows.{RowsProgress-pushed}
use Rattle.document_requests.proofs.entries.names_in.Goals as goal

pub loop-row-preserved : goal.loop-row-preserved
loop-row-preserved c =
    RowsProgress-pushed (list_form person_form) (view c.args.object.now) c.args.rows.now c.loop-row.row-index _ _ _ _ c.loop-row-test.true c.in_ok-held.ensures.read c.in_ok-push_held.ensures c.loop-row.invariant
