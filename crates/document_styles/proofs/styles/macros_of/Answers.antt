-- An error of a macro is one of the object.
use Rattle.std.proofs.Common.{codes}
use Rattle.serde_json.specs.View.{view, items_view}
use Rattle.document_styles.specs.Styles.{macro_form}
use Rattle.document_styles.proofs.ListFaults.{optional_fault}
use Rattle.document_styles.proofs.styles.macros_of.Goals as goal

pub returns-in-Err-clause-fault : goal.returns-in-Err-clause-fault
returns-in-Err-clause-fault c =
    let object = view c.args.object.now in
    optional_fault macro_form (codes "macros") object (items_view c.in_ok-list.list.now) c.in-Err.error c.under.result c.in_ok-list.ensures.read
    c.in-Err.ensures.read c.in-Err.ensures.fault c.under.ensures.refuses (c.under.ensures.fault object)
