-- Equality: the children up to now are the same.
use Rattle.std.proofs.Common.{◌≡◌, take}
use Rattle.value_trees.proofs.elem.+tree.Given as goal

abbrev pub invariant-ElemChildrenPartialEq::eq-loop-i : goal.invariant-ElemChildrenPartialEq::eq-loop-i
invariant-ElemChildrenPartialEq::eq-loop-i l = take l.i l.self-inside.0.items ≡ take l.i l.other-inside.0.items
