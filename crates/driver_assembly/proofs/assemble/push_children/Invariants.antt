use Rattle.std.proofs.Common.{◌≡◌, ◌++◌, map}
use Rattle.value_trees.specs.ChildView.{child_view}
use Rattle.driver_assembly.proofs.assemble.push_children.Given as goal

abbrev pub invariant-loop-child : goal.invariant-loop-child
invariant-loop-child l = l.tree ≡ l.fn.tree ++ map child_view l.yielded
