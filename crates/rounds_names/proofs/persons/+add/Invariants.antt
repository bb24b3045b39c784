use Rattle.std.proofs.Common.{◌≡◌, ◌++◌, map, take}
use Rattle.value_trees.specs.ChildView.{child_view}
use Rattle.rounds_names.specs.Persons.{persons}
use Rattle.rounds_names.proofs.persons.+add.Given as goal

abbrev pub invariant-add_tree-loop-child : goal.invariant-add_tree-loop-child
invariant-add_tree-loop-child l = l.found.items ≡ l.fn.found.items ++ persons (map child_view (take l.child-index l.child-items))
