-- The items so far, one after another.
use Rattle.std.proofs.Common.{slice_get}
use Rattle.driver_passes.specs.RequestView.{cites_view}
use Rattle.document_requests.specs.Indexes.{cite_at}
use Rattle.document_requests.specs.JobView.{asked_cite_view}
use Rattle.document_requests.proofs.EachOf.{EachProgress}
use Rattle.document_requests.proofs.requests.driver_items.Given as goal

abbrev pub invariant-loop-cite : goal.invariant-loop-cite
invariant-loop-cite l = EachProgress asked_cite_view (cite_at (slice_get l.entries)) l.cites l.cite-index (cites_view l.items.items)
