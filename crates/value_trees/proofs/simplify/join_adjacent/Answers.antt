-- One level: one more child.
use Rattle.value_trees.proofs.Simplifying.{level_next}
use Rattle.value_trees.proofs.simplify.join_adjacent.Goals as goal

pub loop-child-preserved : goal.loop-child-preserved
loop-child-preserved c = level_next c.loop-child.yielded c.in-Some.child _ _ c.loop-child.invariant c.in_ok-append.ensures
