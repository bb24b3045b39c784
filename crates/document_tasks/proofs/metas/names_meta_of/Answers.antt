-- An error of names is one of the object.
use Rattle.std.proofs.Common.{codes, subst}
use Rattle.serde_json.specs.View.{view, items_view}
use Rattle.document_styles.proofs.ListFaults.{required_fault}
use Rattle.document_values.specs.Reads.{IsErrorOf}
use Rattle.document_tasks.proofs.metas.names_meta_of.Goals as goal

pub returns-in-Err-clause-fault : goal.returns-in-Err-clause-fault
returns-in-Err-clause-fault c =
    let object = view c.in_ok-object.object.now in
    subst (λ v. IsErrorOf c.under.result (view v)) c.in_ok-object.ensures.same
    (required_fault (codes "names") object (items_view c.in_ok-list.list.now) c.in-Err.error c.under.result c.in_ok-list.ensures.read
    c.in-Err.ensures.fault (c.under.ensures.fault object))
