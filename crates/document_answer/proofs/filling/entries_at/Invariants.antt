-- Entries are looked up one after another.
use Rattle.std.proofs.Common.{slice_get}
use Rattle.driver_passes.specs.RequestView.{entries_view}
use Rattle.document_requests.proofs.EachOf.{EachProgress}
use Rattle.document_answer.proofs.filling.entries_at.Given as goal

abbrev pub invariant-loop-index : goal.invariant-loop-index
invariant-loop-index l = EachProgress (λ i. i) (slice_get l.entries) l.indexes l.index-index (entries_view l.pointed_to.items)
