-- A list of two is read, and no other list.
use Rattle.std.proofs.Common.{arith}
use Rattle.document_requests.proofs.Pairs.{fails_none}
use Rattle.serde_json.specs.View.{view}
use Rattle.document_values.specs.Words.{whole}
use Rattle.document_tasks.proofs.Pairs.{too_short, too_long}
use Rattle.document_tasks.proofs.tasks.place_of.Goals as goal
use Rattle.document_tasks.proofs.tasks.place_of.Goals.{in_default-via-then-branch-lt2, in_default-via-else-branch-lt2+else-this-lt3}

pub returns-in_default-clause-read : goal.returns-in_default-clause-read
returns-in_default-clause-read c =
    fails_none c.unnamed.result _ (elim c.in_default.branch [
      | in_default-via-then-branch-lt2 w ↦ too_short whole whole (view c.args.value.now) c.in_ok-list_of.field-0.now c.in_ok-list_of.ensures.read (grind arith)
      | in_default-via-else-branch-lt2+else-this-lt3 w ↦ too_long whole whole (view c.args.value.now) c.in_ok-list_of.field-0.now c.in_ok-list_of.ensures.read (grind arith)
    ])
