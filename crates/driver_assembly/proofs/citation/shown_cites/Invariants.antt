use Rattle.std.proofs.Common.{◌≡◌, ◌++◌, drop, map, take}
use Rattle.driver_passes.specs.RendersView.{items_view}
use Rattle.driver_passes.specs.Request.{source_of}
use Rattle.driver_passes.specs.RequestView.{request_view}
use Rattle.driver_assembly.specs.CitationTree.{citation_tasks, shown, shown_cite}
use Rattle.driver_assembly.specs.ShownView.{shown_views}
use Rattle.driver_writers.specs.Desk.{after, desk}
use Rattle.driver_writers.specs.Writing.{writing_of}
use Rattle.driver_assembly.proofs.citation.shown_cites.Given as goal

abbrev pub invariant-loop-item : goal.invariant-loop-item
invariant-loop-item g l =
    let request = request_view l.request.request.now in
    let Way = g.W.CiteWriter.Way in
    let agrees = g.W.CiteWriter.agrees in
    let state = g.W.CiteWriter.state in
    let one = λ (way : Way). shown_cite (writing_of g.T.EntryLike.answers (state l.fn.writer way)) l.index (source_of request) request.style.citation.layout in
    record {
      cites : (way : Way) → agrees l.writer way
          → shown_views l.cites.items ++ map (one way) (shown (items_view (drop l.item-index l.items))) ≡ map (one way) (shown (items_view l.items));
      asked : (way : Way) → agrees l.writer way → desk (state l.writer way) l.counter
          ≡ after (citation_tasks l.index (record { items = items_view (take l.item-index l.items); request = request })) (desk (state l.fn.writer way) l.fn.counter);
      agreed : (way : Way) → agrees l.writer way → agrees l.fn.writer way;
    }
