-- One level: the children up to now are joined.
use Rattle.std.proofs.Common.{◌≡◌, map}
use Rattle.value_trees.specs.ChildView.{child_view}
use Rattle.value_trees.specs.Simplify.{level_joined}
use Rattle.value_trees.proofs.simplify.join_adjacent.Given as goal

abbrev pub invariant-loop-child : goal.invariant-loop-child
invariant-loop-child l = l.children ≡ level_joined (map child_view l.yielded)
