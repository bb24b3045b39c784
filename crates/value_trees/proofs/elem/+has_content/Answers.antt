-- Content: a child that has none, and one that has some.
use Rattle.std.proofs.Common.{map, arith, ap, sym, ◌∙◌}
use Rattle.value_trees.specs.Tree.{has_content}
use Rattle.value_trees.specs.ChildView.{child_view}
use Rattle.value_trees.proofs.Trees.{has_content_here, has_content_past}
use Rattle.value_trees.proofs.elem.+has_content.Goals as goal

pub ElemChildren::has_content-loop-child-preserved : goal.ElemChildren::has_content-loop-child-preserved
ElemChildren::has_content-loop-child-preserved t c =
    let l = c.loop-child in
    sym (has_content_past _ l.child-index c.child-item.result (omega arith) c.child-item.is (sym c.has_content.ensures ∙ c.if-has_content.false)) ∙ l.invariant

pub ElemChildren::has_content-returns-then-has_content : goal.ElemChildren::has_content-returns-then-has_content
ElemChildren::has_content-returns-then-has_content t c =
    let l = c.loop-child in
    let whole = ap (map child_view) c.deref-child-items.ensures.value ∙ c.self.view_is in
    sym (has_content_here _ l.child-index c.child-item.result (omega arith) c.child-item.is (sym c.has_content.ensures ∙ c.if-has_content.true)) ∙ l.invariant ∙ ap has_content whole
