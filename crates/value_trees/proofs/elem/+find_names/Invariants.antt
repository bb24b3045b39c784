-- The search for names, from the next child on.
use Rattle.std.proofs.Common.{◌≡◌, map, drop}
use Rattle.value_trees.specs.ChildView.{child_view}
use Rattle.value_trees.specs.Tree.{find_elem, has_names}
use Rattle.value_trees.proofs.elem.+find_names.Given as goal

abbrev pub invariant-ElemChildren::find_names-loop-child : goal.invariant-ElemChildren::find_names-loop-child
invariant-ElemChildren::find_names-loop-child l =
    find_elem has_names (map child_view (drop l.child-index l.child-items)) ≡ find_elem has_names (map child_view l.child-items)
