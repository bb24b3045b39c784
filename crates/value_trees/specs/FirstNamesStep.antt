-- One step down to the first element of meta Names: the first child that holds one.
use Rattle.std.specs.Prelude.{ℕ, Bool, false, not, List, Option, None, Some, slice_set}
use Rattle.std.specs.List.{find, position_or_len}
use Rattle.std.specs.Option.{option_and_then, option_map_or}
use Rattle.value_trees.specs.ChildView.{child_view}
use Rattle.value_trees.specs.Child.{Child, text, elem, markup, link, transparent}
use Rattle.value_trees.specs.Tree.{elem_of, has_names}
use Rattle.value_trees.specs.FirstNames.{holds_names, as_child}
use Rattle.value_trees.specs.declared.elem.Elem.{Elem}
use Rattle.value_trees.specs.declared.elem.ElemChild.{ElemChild}
use Rattle.value_trees.specs.declared.elem.ElemChild.TheVariants as v

-- the child is an element, and its own meta is not Names
abbrev pub elem_without_names : Child → Bool
elem_without_names (text f) = false
elem_without_names (elem ks d m) = not (has_names (elem_of ks d m))
elem_without_names (markup s) = false
elem_without_names (link f s) = false
elem_without_names (transparent i f) = false

-- the first child that holds names
abbrev pub first_holder : List Child → Option Child
first_holder cs = find holds_names cs

-- its index; the number of children where none does
abbrev pub holder_index : List Child → ℕ
holder_index cs = position_or_len holds_names cs

-- the list with that child replaced
abbrev pub put_holder : List Child → Child → List Child
put_holder cs d = slice_set cs (holder_index cs) d

-- the same, by a child as `src/` has it
abbrev pub put_holder_child : List Child → ElemChild → List Child
put_holder_child cs w = put_holder cs (child_view w)

-- the names stand in that child, which is not their element
abbrev pub names_lie_deeper : List Child → Bool
names_lie_deeper cs = option_map_or elem_without_names (first_holder cs) false

-- the element that a child is, if it is one
abbrev pub own_elem : Child → Option Elem
own_elem (text f) = None
own_elem (elem ks d m) = Some (elem_of ks d m)
own_elem (markup s) = None
own_elem (link f s) = None
own_elem (transparent i f) = None

-- an element replaced; every other child as it is
abbrev pub put_own_elem : Child → Elem → Child
put_own_elem (text f) w = text f
put_own_elem (elem ks d m) w = as_child w
put_own_elem (markup s) w = markup s
put_own_elem (link f s) w = link f s
put_own_elem (transparent i f) w = transparent i f

-- the same, of a child as `src/` has it
abbrev pub with_elem : ElemChild → Elem → ElemChild
with_elem (v.Text f) w = v.Text f
with_elem (v.Elem e) w = v.Elem w
with_elem (v.Markup s) w = v.Markup s
with_elem (v.Link f s) w = v.Link f s
with_elem (v.Transparent i f) w = v.Transparent i f

-- the element that the first holder is, and the list with it replaced
abbrev pub holder_elem : List Child → Option Elem
holder_elem cs = option_and_then own_elem (first_holder cs)

abbrev pub put_holder_elem : List Child → Elem → List Child
put_holder_elem cs w = option_map_or (λ c. put_holder cs (put_own_elem c w)) (first_holder cs) cs
