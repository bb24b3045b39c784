-- Equality of elements and of children, by their derived tests.
use Rattle.std.specs.Prelude.{Bool}
use Rattle.value_trees.specs.declared.elem.Elem.{Elem}
use Rattle.value_trees.specs.declared.elem.ElemChild.{ElemChild}
use Rattle.value_trees.specs.contracts.elem.ElemPartialEq.TheImpl as elem_eq
use Rattle.value_trees.specs.contracts.elem.ElemChildPartialEq.TheImpl as child_eq

abbrev pub same_elem : Elem → Elem → Bool
same_elem = (elem_eq.ghosts).eq

abbrev pub same_child : ElemChild → ElemChild → Bool
same_child = (child_eq.ghosts).eq
