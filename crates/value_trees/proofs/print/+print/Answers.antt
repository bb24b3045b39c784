-- Printing: one more child.
use Rattle.std.proofs.Common.{arith, sym, refl, true}
use Rattle.std.proofs.Output.{has_written_append, has_written_of_eq}
use Rattle.value_trees.proofs.Trees.{plain-next}
use Rattle.value_trees.proofs.print.+print.Goals as goal

pub print_children-loop-child-preserved : goal.print_children-loop-child-preserved
print_children-loop-child-preserved g t c = λ p.
    let l = c.loop-child in
    let before = l.invariant p in
    has_written_of_eq _ _ _ _ _ (sym (plain-next _ l.child-index c.child-item.result (omega arith) c.child-item.is))
    (has_written_append _ _ _ _ _ _ before (c.in_ok-print_child.ensures before.plain (refl {a = true})))
