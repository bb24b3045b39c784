-- What was read, part by part, is the document.
use Rattle.std.proofs.Common.{Some, map, ap}
use Rattle.std.specs.Prelude.{option_and_then}
use Rattle.serde_json.specs.View.{view}
use Rattle.value_styles.specs.StyleView.{locale_view}
use Rattle.document_requests.specs.Form.{document_of as asking}
use Rattle.document_styles.specs.NamedStyleView.{named_styles_view}
use Rattle.document_answer.specs.DocumentView.{document_view}
use Rattle.document_answer.proofs.Reading.{document-read}
use Rattle.document_answer.proofs.document.document_of.Goals as goal

pub returns-clause-read : goal.returns-clause-read
returns-clause-read c =
    let styles = c.in_ok-styles.styles.items in
    let locales = map locale_view c.in_ok-locales.locales.items in
    document-read (view c.args.value.now) (view c.in_ok-object.object.now) (named_styles_view styles) locales c.in_ok-entries.entries.items
    c.in_ok-object.ensures.read c.in_ok-styles.ensures.read c.in_ok-locales.ensures.read c.in_ok-entries.ensures.read _
    (rw (c.deref.ensures.value, c.deref-2.ensures.value) at c.in_ok-job.ensures.read.0)
    (ap (option_and_then (λ a. Some (asking locales a))) (rw (c.deref.ensures.value, c.deref-2.ensures.value) at c.in_ok-job.ensures.read.1))
