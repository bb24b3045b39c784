-- A list of one or two texts is a person, and no other list.
use Rattle.std.proofs.Common.{arith}
use Rattle.serde_json.specs.View.{view}
use Rattle.document_requests.proofs.Pairs.{fails_none, no_name, three_names}
use Rattle.document_requests.proofs.persons.person_of.Goals as goal
use Rattle.document_requests.proofs.persons.person_of.Goals.{in_default-via-then-branch-lt1, in_default-via-else-branch-lt1+else-this-lt2+else-this-lt3}

pub returns-in_default-clause-read : goal.returns-in_default-clause-read
returns-in_default-clause-read c =
    fails_none c.unlike.result _ (elim c.in_default.branch [
      | in_default-via-then-branch-lt1 w ↦ no_name (view c.args.value.now) c.in_ok-list_of.field-0.now c.in_ok-list_of.ensures.read (grind arith)
      | in_default-via-else-branch-lt1+else-this-lt2+else-this-lt3 w ↦ three_names (view c.args.value.now) c.in_ok-list_of.field-0.now c.in_ok-list_of.ensures.read (grind arith)
    ])
