-- Content, from the next child on.
use Rattle.std.proofs.Common.{◌≡◌, map, drop}
use Rattle.value_trees.specs.ChildView.{child_view}
use Rattle.value_trees.specs.Tree.{has_content}
use Rattle.value_trees.proofs.elem.+has_content.Given as goal

abbrev pub invariant-ElemChildren::has_content-loop-child : goal.invariant-ElemChildren::has_content-loop-child
invariant-ElemChildren::has_content-loop-child l =
    has_content (map child_view (drop l.child-index l.child-items)) ≡ has_content (map child_view l.child-items)
