-- Copies: the children up to now.
use Rattle.std.proofs.Common.{◌≡◌, take}
use Rattle.value_trees.proofs.elem.+copy.Given as goal

abbrev pub invariant-copy_children-loop-child : goal.invariant-copy_children-loop-child
invariant-copy_children-loop-child l = l.copies.items ≡ take l.child-index l.child-items
