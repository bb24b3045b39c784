-- One more item, an index that points to nothing, and the end.
use Rattle.std.proofs.Common.{slice_get, sym}
use Rattle.driver_passes.specs.RequestView.{cite_view}
use Rattle.document_requests.specs.Indexes.{cite_at}
use Rattle.document_requests.specs.JobView.{asked_cite_view}
use Rattle.document_requests.proofs.EachOf.{EachProgress-end, EachProgress-none, EachProgress-pushed}
use Rattle.document_requests.proofs.requests.driver_items.Goals as goal

pub loop-cite-preserved : goal.loop-cite-preserved
loop-cite-preserved c =
    EachProgress-pushed asked_cite_view (cite_at (slice_get c.args.entries.now)) cite_view c.args.cites.now c.loop-cite.cite-index _ _ c.cite-item.result c.in-Some.item
    c.loop-cite-test.true c.cite-item.is (sym (rw c.in-Some.is at c.in_ok-item.ensures)) c.in_ok-push-in-Some.ensures.items c.loop-cite.invariant

pub returns-in-None : goal.returns-in-None
returns-in-None c =
    sym (EachProgress-none asked_cite_view (cite_at (slice_get c.args.entries.now)) c.args.cites.now c.loop-cite.cite-index _ c.cite-item.result
    c.loop-cite-test.true c.cite-item.is c.loop-cite.invariant (sym (rw c.in-None.is at c.in_ok-item.ensures)))

pub returns : goal.returns
returns c =
    sym (EachProgress-end asked_cite_view (cite_at (slice_get c.args.entries.now)) c.args.cites.now c.loop-cite.cite-index _ c.loop-cite-test.false c.loop-cite.invariant)
