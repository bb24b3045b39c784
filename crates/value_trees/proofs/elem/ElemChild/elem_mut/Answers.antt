-- The element that the child is.
use Rattle.value_trees.proofs.Trees.{elem_back}
use Rattle.value_trees.proofs.elem.ElemChild.elem_mut.Goals as goal

pub returns-in-Elem : goal.returns-in-Elem
returns-in-Elem c = (rw c.in-Elem.is, record { writes_back = tt; value = rw (c.in-Elem.is, elem_back c.in-Elem.elem) })
