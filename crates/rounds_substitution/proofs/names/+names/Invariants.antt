-- The names so far, and those of the children from the next one on.
use Rattle.std.proofs.Common.{◌≡◌, ◌++◌, map, drop}
use Rattle.value_trees.specs.ChildView.{child_view}
use Rattle.rounds_substitution.specs.Names.{names_in}
use Rattle.rounds_substitution.proofs.names.+names.Given as goal

abbrev pub invariant-add_names-loop-child : goal.invariant-add_names-loop-child
invariant-add_names-loop-child l =
    map (λ e. e.now) l.names.items ++ names_in (map child_view (drop l.child-index l.child-items))
    ≡ map (λ e. e.now) l.initial.names.items ++ names_in (map child_view l.child-items)
