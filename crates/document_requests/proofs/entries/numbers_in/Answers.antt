-- One more row was looked up.
use Rattle.serde_json.specs.View.{view}
use Rattle.serde_json.specs.Find.{as_str}
use Rattle.document_requests.proofs.Rows.{RowsProgress-pushed}
use Rattle.document_requests.proofs.entries.numbers_in.Goals as goal

pub loop-row-preserved : goal.loop-row-preserved
loop-row-preserved c =
    RowsProgress-pushed as_str (view c.args.object.now) c.args.rows.now c.loop-row.row-index _ _ _ _ c.loop-row-test.true c.in_ok-held.ensures.read c.in_ok-push_held.ensures c.loop-row.invariant
