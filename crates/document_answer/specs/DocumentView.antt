-- The document that a value of the program stands for, with what its indexes point to in their
-- places; none where one points to nothing.
use Rattle.std.specs.Prelude.{Option, Some, map, slice_get}
use Rattle.value_styles.specs.StyleView.{locale_view}
use Rattle.document_requests.specs.Form as form
use Rattle.document_requests.specs.FoundView.{unnamed}
use Rattle.document_requests.specs.Indexes.{asked_at}
use Rattle.document_requests.specs.JobView.{asked_view}
use Rattle.document_values.specs.Words.{◌>>=◌}
use Rattle.document_answer.specs.declared.document.Document.{Document}

abbrev pub document_view : Document → Option form.Document
document_view d = do
  asked ← asked_at (slice_get d.entries.items) (slice_get (unnamed d.styles.items))
      (asked_view d.job)
  Some (form.document_of (map locale_view d.locales.items) asked)
