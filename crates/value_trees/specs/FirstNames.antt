-- A tree with its first element of meta Names replaced.
use Rattle.std.specs.Prelude.{Bool, cond, List, is_some}
use Rattle.value_trees.specs.Child.{Child, text, elem, markup, link, transparent, Kids, no_kids, kid, kids_of, list_of}
use Rattle.value_trees.specs.Tree.{elem_of, has_names, child_find}
use Rattle.value_trees.specs.declared.elem.Elem.{Elem}

-- the child is such an element, or one stands in it
abbrev pub holds_names : Child → Bool
holds_names c = is_some (child_find has_names c)

-- an element as a child
abbrev pub as_child : Elem → Child
as_child w = elem (kids_of w.children) w.display w.meta

-- in one child, and in the first of several in which such an element stands
abbrev mutual
  pub child_put_names : Child → Elem → Child
  child_put_names (text f) w = text f
  child_put_names (elem ks d m) w =
      cond (has_names (elem_of ks d m)) (as_child w) (elem (kids_put_names ks w) d m)
  child_put_names (markup s) w = markup s
  child_put_names (link f s) w = link f s
  child_put_names (transparent i f) w = transparent i f

  pub kids_put_names : Kids → Elem → Kids
  kids_put_names no_kids w = no_kids
  kids_put_names (kid c ks) w =
      cond (holds_names c) (kid (child_put_names c w) ks) (kid c (kids_put_names ks w))

-- the tree with that element replaced; the same tree where there is none
abbrev pub put_names : List Child → Elem → List Child
put_names cs w = list_of (kids_put_names (kids_of cs) w)
