-- One step down to the last text: the last child, and the text that it is.
use Rattle.std.specs.Prelude.{Bool, false, List, [], ◌∷◌, Option, None, Some}
use Rattle.std.specs.Option.{option_and_then, option_map_or}
use Rattle.value_trees.specs.ChildView.{child_view}
use Rattle.value_trees.specs.Child.{Child, text, elem, markup, link, transparent}
use Rattle.value_trees.specs.Nested.{child_is_elem}
use Rattle.value_sources.specs.declared.formatting.Formatted.{Formatted}
use Rattle.value_trees.specs.declared.elem.ElemChild.{ElemChild}
use Rattle.value_trees.specs.declared.elem.ElemChild.TheVariants as v

-- the last child
abbrev pub last_child : List Child → Option Child
last_child [] = None
last_child (c ∷ cs) = elim cs [ [] ↦ Some c | _ ∷ _ ↦ last_child cs ]

-- the list with its last child replaced
abbrev pub put_last : List Child → Child → List Child
put_last [] d = []
put_last (c ∷ cs) d = elim cs [ [] ↦ d ∷ [] | _ ∷ _ ↦ c ∷ put_last cs d ]

-- the same, by a child as `src/` has it
abbrev pub put_last_child : List Child → ElemChild → List Child
put_last_child cs w = put_last cs (child_view w)

-- the last child is an element
abbrev pub ends_in_elem : List Child → Bool
ends_in_elem cs = option_map_or child_is_elem (last_child cs) false

-- the text that a child is, if it is one
abbrev pub own_text : Child → Option Formatted
own_text (text f) = Some f
own_text (elem ks d m) = None
own_text (markup s) = None
own_text (link f s) = None
own_text (transparent i f) = None

-- a text replaced; every other child as it is
abbrev pub put_own_text : Child → Formatted → Child
put_own_text (text f) w = text w
put_own_text (elem ks d m) w = elem ks d m
put_own_text (markup s) w = markup s
put_own_text (link f s) w = link f s
put_own_text (transparent i f) w = transparent i f

-- the same, of a child as `src/` has it
abbrev pub with_text : ElemChild → Formatted → ElemChild
with_text (v.Text f) w = v.Text w
with_text (v.Elem e) w = v.Elem e
with_text (v.Markup s) w = v.Markup s
with_text (v.Link f s) w = v.Link f s
with_text (v.Transparent i f) w = v.Transparent i f

-- the text that the last child is, and the list with it replaced
abbrev pub end_text : List Child → Option Formatted
end_text cs = option_and_then own_text (last_child cs)

abbrev pub put_end_text : List Child → Formatted → List Child
put_end_text cs w = option_map_or (λ c. put_last cs (put_own_text c w)) (last_child cs) cs
