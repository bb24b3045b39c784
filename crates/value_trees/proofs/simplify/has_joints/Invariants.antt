-- The children up to the index stay as they are when they are joined, and the last of them is known.
use Rattle.std.proofs.Common.{◌≡◌, map, take}
use Rattle.value_trees.specs.ChildView.{child_view}
use Rattle.value_trees.specs.Simplify.{level_joined}
use Rattle.value_trees.proofs.Simplifying.{EndsIn}
use Rattle.value_trees.proofs.simplify.has_joints.Given as goal

abbrev pub invariant-loop-child : goal.invariant-loop-child
invariant-loop-child l =
    let before = take l.child-index l.children in
    record {
      apart : level_joined (map child_view before) ≡ map child_view before;
      ends : EndsIn l.last before;
    }
