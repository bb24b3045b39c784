-- An object without keys is refused as no document.
use Rattle.serde_json.specs.View.{view}
use Rattle.value_styles.specs.StyleView.{citation_view}
use Rattle.document_driven.proofs.Absent.{empty_unrefused}
use Rattle.document_driven.proofs.styles.citation_at.Goals as goal

pub returns-in-None-clause-fault : goal.returns-in-None-clause-fault
returns-in-None-clause-fault c =
    empty_unrefused citation_view c.args.name.now _ c.new.result (view c.args.object.now) c.new.ensures.empty c.citation_of.ensures.read
