use Rattle.csl_writing.specs.LayoutWriting.{layout_writing}
use Rattle.std.proofs.Common.{◌≡◌, ◌++◌, drop, map}
use Rattle.driver_assembly.specs.ShownView.{shown_views}
use Rattle.driver_passes.specs.Request.{source_of}
use Rattle.driver_passes.specs.RequestView.{cites_view, request_view}
use Rattle.csl_driver.specs.StandaloneCitation.{behind, lone_delimiter, lone_trees}
use Rattle.csl_driver.proofs.standalone.lone_cites.Given as goal

abbrev pub invariant-loop-item : goal.invariant-loop-item
invariant-loop-item g l =
    let request = request_view l.acyclic.request.now in
    let one = behind (lone_delimiter request.style.citation.layout) in
    let trees = lone_trees (layout_writing g.T.EntryLike.answers) (source_of request) in
    shown_views l.cites.items ++ map one (trees (cites_view (drop l.item-index l.item-items))) ≡ map one (trees (cites_view l.item-items))
