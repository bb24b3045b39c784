-- What was read, part by part, is the driven document.
use Rattle.std.proofs.Common.{map, ap}
use Rattle.serde_json.specs.View.{view}
use Rattle.value_styles.specs.StyleView.{locale_view}
use Rattle.host_memo.specs.Written.{found}
use Rattle.document_styles.specs.NamedStyleView.{named_styles_view}
use Rattle.document_driven.proofs.DrivenRead.{driven-read}
use Rattle.document_driven.proofs.driving.driven_document_of.Goals as goal

pub returns-clause-read : goal.returns-clause-read
returns-clause-read c =
    driven-read (view c.args.value.now) (view c.in_ok-object.object.now) (named_styles_view c.in_ok-styles.styles.items) c.in_ok-entries.entries.items (found c.in_ok-table.table)
    c.in_ok-object.ensures.read c.in_ok-styles.ensures.read c.in_ok-entries.ensures.read (rw (c.deref-3.ensures.value, c.deref-4.ensures.value) at c.in_ok-table.ensures.read)
    (map locale_view c.new.result.items) (ap (map locale_view) c.new.ensures.items) _ (rw (c.deref.ensures.value, c.deref-2.ensures.value) at c.in_ok-job.ensures.read.0)
    (rw (c.deref.ensures.value, c.deref-2.ensures.value) at c.in_ok-job.ensures.read.1)
