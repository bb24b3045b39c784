-- The children of a child that is an element.
use Rattle.std.specs.Prelude.{Bool, true, false, List, []}
use Rattle.value_trees.specs.Child.{Child, text, elem, markup, link, transparent, kids_of, list_of}
use Rattle.value_trees.specs.declared.elem.ElemChild.{ElemChild}
use Rattle.value_trees.specs.declared.elem.ElemChild.TheVariants as v

-- the child is an element
abbrev pub child_is_elem : Child → Bool
child_is_elem (text f) = false
child_is_elem (elem ks d m) = true
child_is_elem (markup s) = false
child_is_elem (link f s) = false
child_is_elem (transparent i f) = false

-- an element's children; no other child has any
abbrev pub inner : Child → List Child
inner (text f) = []
inner (elem ks d m) = list_of ks
inner (markup s) = []
inner (link f s) = []
inner (transparent i f) = []

-- an element with its children replaced; every other child as it is
abbrev pub put_inner : Child → List Child → Child
put_inner (text f) w = text f
put_inner (elem ks d m) w = elem (kids_of w) d m
put_inner (markup s) w = markup s
put_inner (link f s) w = link f s
put_inner (transparent i f) w = transparent i f

-- the same, of a child as `src/` has it
abbrev pub with_children : ElemChild → List Child → ElemChild
with_children (v.Text f) w = v.Text f
with_children (v.Elem e) w = v.Elem (record e { children = w })
with_children (v.Markup s) w = v.Markup s
with_children (v.Link f s) w = v.Link f s
with_children (v.Transparent i f) w = v.Transparent i f
