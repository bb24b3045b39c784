-- The indexes of the maps point to what the lists hold.
use Rattle.serde_json.specs.View.{view}
use Rattle.document_requests.specs.Entries.{entry_named}
use Rattle.document_requests.specs.Finders.{text_in}
use Rattle.document_requests.specs.FoundView.{unnamed}
use Rattle.document_requests.specs.JobView.{asked_view}
use Rattle.document_styles.specs.NamedStyleView.{named_styles_view}
use Rattle.document_styles.specs.Styles.{style_named}
use Rattle.document_requests.proofs.Pointed.{reads-by-index}
use Rattle.document_requests.proofs.document.job_in.Goals as goal

pub returns-clause-read : goal.returns-clause-read
returns-clause-read c =
    reads-by-index asked_view (unnamed c.args.styles.now) c.args.entries.now (text_in c.in_ok-by_name.by_name) (text_in c.in_ok-by_key.by_key)
    (style_named (named_styles_view c.args.styles.now)) (entry_named c.args.entries.now) (view c.args.object.now)
    c.in_ok-by_name.ensures c.in_ok-by_key.ensures c.job_of.result c.job_of.ensures.read
