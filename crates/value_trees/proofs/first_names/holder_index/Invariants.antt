-- The loop that seeks the first holder.
use Rattle.std.proofs.Common.{◌≡◌, ◌+◌, drop, map}
use Rattle.value_trees.specs.ChildView.{child_view}
use Rattle.value_trees.specs.FirstNamesStep.{holder_index}
use Rattle.value_trees.proofs.first_names.holder_index.Given as goal

abbrev pub invariant-loop-i : goal.invariant-loop-i
invariant-loop-i l =
    let xs = l.tree-inside.0.items in
    l.i + holder_index (map child_view (drop l.i xs)) ≡ holder_index (map child_view xs)
