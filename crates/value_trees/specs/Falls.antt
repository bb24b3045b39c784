-- Each element has fewer nodes than the tree around it.
use Rattle.std.specs.Prelude.{◌≤◌, List, [], ◌∷◌, map}
use Rattle.std.proofs.Common.{arith}
use denote.Param.Weighed.{most}
use Rattle.value_trees.specs.ChildView.{child_view, child_nodes, nodes}
use Rattle.value_trees.specs.declared.elem.ElemChild.{ElemChild}
use Rattle.value_trees.specs.declared.elem.ElemChild.TheVariants as v
use Rattle.value_trees.specs.declared.elem.ElemChildren.TheDeep.{deep-ElemChild}

child_falls : (c : ElemChild) → deep-ElemChild c ≤ child_nodes (child_view c)
child_falls (v.Text f) = omega arith
child_falls (v.Elem e) = omega arith
child_falls (v.Markup s) = omega arith
child_falls (v.Link f s) = omega arith
child_falls (v.Transparent i f) = omega arith

pub most_falls : (cs : List ElemChild) → most deep-ElemChild cs ≤ nodes (map child_view cs)
most_falls [] = omega arith
most_falls (c ∷ cs) = omega (arith, child_falls c, most_falls cs)
