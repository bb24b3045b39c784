use Rattle.rounds_names.proofs.Shown.{persons-more}
use Rattle.rounds_names.proofs.persons.+add.Goals as goal

pub add_tree-loop-child-preserved : goal.add_tree-loop-child-preserved
add_tree-loop-child-preserved t c =
    persons-more c.deref-child-items.result.now c.loop-child.child-index c.child-item.result _ c.loop-child-test.true c.child-item.is
    c.in_ok-add_child.ensures c.loop-child.invariant
