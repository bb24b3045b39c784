-- The children of the element that the child is.
use Rattle.value_trees.specs.Child.{list_of-kids_of}
use Rattle.std.proofs.Common.{refl}
use Rattle.value_trees.proofs.elem.ElemChild.children_mut.Goals as goal

pub returns : goal.returns
returns c = ((refl, λ w. rw c.in-Elem.is), record { writes_back = tt; value = rw (c.in-Elem.is, list_of-kids_of c.in-Elem.elem.children) })
