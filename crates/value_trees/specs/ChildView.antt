-- What a tree is seen as.
use Rattle.std.specs.Prelude.{ℕ, ◌+◌, List, map}
use Rattle.value_trees.specs.Child.{Child, text, elem, markup, link, transparent, Kids, no_kids, kid, kids_of}
use Rattle.value_trees.specs.declared.elem.ElemChild.{ElemChild}
use Rattle.value_trees.specs.declared.elem.ElemChild.TheVariants as v
use Rattle.value_trees.specs.declared.elem.ElemChildren.TheInside.{Inside}

abbrev pub child_view : ElemChild → Child
child_view (v.Text f) = text f
child_view (v.Elem e) = elem (kids_of e.children) e.display e.meta
child_view (v.Markup s) = markup s
child_view (v.Link f s) = link f s
child_view (v.Transparent i f) = transparent i f

abbrev pub children_view : Inside → List Child
children_view a = map child_view a.0.items

abbrev mutual
  pub child_nodes : Child → ℕ
  child_nodes (text f) = 1
  child_nodes (elem ks d m) = 1 + kids_nodes ks
  child_nodes (markup s) = 1
  child_nodes (link f s) = 1
  child_nodes (transparent i f) = 1

  pub kids_nodes : Kids → ℕ
  kids_nodes no_kids = 0
  kids_nodes (kid c ks) = child_nodes c + kids_nodes ks

abbrev pub nodes : List Child → ℕ
nodes cs = kids_nodes (kids_of cs)
