-- The names so far, and those of the children from the next one on.
use Rattle.std.proofs.Common.{◌≡◌, ◌++◌, map, drop}
use Rattle.value_trees.specs.ChildView.{child_view}
use Rattle.mentions_authors.specs.Names.{names_within}
use Rattle.mentions_authors.proofs.names.+names.Given as goal

abbrev pub invariant-add_names-loop-child : goal.invariant-add_names-loop-child
invariant-add_names-loop-child l =
    l.names.items ++ names_within (map child_view (drop l.child-index l.child-items)) ≡ l.initial.names.items ++ names_within (map child_view l.child-items)
