use Rattle.std.proofs.Common.{◌≡◌, List, map, take, arith, rules}
use Rattle.std.proofs.lemmas.Grind.{common_steps}
use Rattle.value_trees.specs.Child.{Child}
use Rattle.driver_passes.specs.Renders.{ItemRender}
use Rattle.driver_passes.specs.RendersView.{item_view, items_view}
use Rattle.driver_passes.specs.Request.{source_of}
use Rattle.driver_passes.specs.RequestView.{request_view}
use Rattle.driver_writers.specs.Desk.{desk}
use Rattle.driver_writers.specs.Tasks.{CiteTaskValue, TaskValue}
use Rattle.driver_writers.specs.Writing.{Writing, writing_of}
use Rattle.driver_writers.proofs.TasksDone.{writes-same}
use Rattle.driver_assembly.specs.CitationTree.{marked_cite, last_place_of}
use Rattle.driver_assembly.specs.LastTree.{last_task, task_by_purpose, tree_by_purpose}
use Rattle.driver_assembly.proofs.Asked.{asked-each, written_by_same}
use Rattle.driver_assembly.proofs.citation.shown_cites.Goals.{else-not-item, then-not-item+in_ok-push}
use Rattle.driver_assembly.proofs.citation.shown_cites.Goals as goal

pub loop-item-preserved : goal.loop-item-preserved
loop-item-preserved g c =
    let E = g.row.T.Denot in
    let P = g.row.P.Denot in
    let items = c.args.items.now in
    let item = c.item-item.result in
    let k = c.loop-item.item-index in
    let source = source_of (request_view c.args.request.request.now) in
    let Way = g.W.CiteWriter.Way in
    let agrees = g.W.CiteWriter.agrees in
    let state = g.W.CiteWriter.state in
    let old = λ (way : Way). desk (state c.args.writer.now way) c.args.counter.now in
    let before = λ (way : Way). desk (state c.loop-item.writer way) c.loop-item.counter in
    let new = λ (way : Way). desk (state c.marked_cite.new.writer way) c.marked_cite.new.counter in
    let was = c.loop-item.invariant in
    let task_of : ItemRender E P → CiteTaskValue E P = λ i. last_task source (last_place_of c.args.index i) i in
    let asked : List (TaskValue E P) = map (λ i. task_by_purpose (task_of i)) (items_view (take k items)) in
    let before_ok : (way : Way) → agrees c.marked_cite.new.writer way → agrees c.loop-item.writer way = c.in_ok-tree.ensures.agreed in
    let marked : Writing E P → List Child = λ w. marked_cite (item_view item) (tree_by_purpose w (task_of (item_view item))) in
    let written = λ (way : Way). writing_of g.T.EntryLike.answers (state c.args.writer.now way) in
    let tree : (way : Way) → agrees c.marked_cite.new.writer way → c.in_ok-tree.tree ≡ marked (written way) =
    λ way ok. written_by_same marked (writing_of g.T.EntryLike.answers (state c.loop-item.writer way)) (written way) c.in_ok-tree.tree
    (writes-same g.T.EntryLike.answers asked (old way) (before way) (was.asked way (before_ok way ok))) (c.in_ok-tree.ensures.tree way ok) in
    record {
      cites = λ way ok.
          let one_tree = tree way ok in
          let so_far = was.cites way (before_ok way ok) in
          elim c.if-not-item.branch [
            | then-not-item+in_ok-push w ↦ first_of (search (rules, common_steps), grind (arith, common_steps))
            | else-not-item w ↦ first_of (search (rules, common_steps), grind (arith, common_steps))
          ];
      asked = λ way ok. asked-each items k item item c.loop-item-test.true c.item-item.is (λ i. task_by_purpose (task_of i)) (old way) (before way) (new way) item_view (was.asked way (before_ok way ok)) (c.in_ok-tree.ensures.asked way ok);
      agreed = λ way ok. was.agreed way (before_ok way ok);
    }
