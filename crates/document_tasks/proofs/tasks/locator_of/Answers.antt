-- A list of two is read, and no other list.
use Rattle.std.proofs.Common.{arith}
use Rattle.document_requests.proofs.Pairs.{fails_none}
use Rattle.serde_json.specs.View.{view}
use Rattle.document_values.specs.Names.{one_of}
use Rattle.document_values.specs.Tables.{locators}
use Rattle.serde_json.specs.Find.{as_str}
use Rattle.document_tasks.proofs.Pairs.{too_short, too_long}
use Rattle.document_tasks.proofs.tasks.locator_of.Goals as goal
use Rattle.document_tasks.proofs.tasks.locator_of.Goals.{in_default-via-then-branch-lt2, in_default-via-else-branch-lt2+else-this-lt3}

pub returns-in_default-clause-read : goal.returns-in_default-clause-read
returns-in_default-clause-read c =
    fails_none c.unlike.result _ (elim c.in_default.branch [
      | in_default-via-then-branch-lt2 w ↦ too_short (one_of locators) as_str (view c.args.value.now) c.in_ok-list_of.field-0.now c.in_ok-list_of.ensures.read (grind arith)
      | in_default-via-else-branch-lt2+else-this-lt3 w ↦ too_long (one_of locators) as_str (view c.args.value.now) c.in_ok-list_of.field-0.now c.in_ok-list_of.ensures.read (grind arith)
    ])
