-- The persons so far, and those of the children from the next one on.
use Rattle.std.proofs.Common.{◌≡◌, ◌++◌, map, drop}
use Rattle.value_trees.specs.ChildView.{child_view}
use Rattle.mentions_groups.specs.Shown.{persons_in}
use Rattle.mentions_groups.proofs.shown.+names.Given as goal

abbrev pub invariant-add_persons-loop-child : goal.invariant-add_persons-loop-child
invariant-add_persons-loop-child l =
    l.persons.items ++ persons_in l.variables (map child_view (drop l.child-index l.child-items)) ≡ l.initial.persons.items ++ persons_in l.variables (map child_view l.child-items)
