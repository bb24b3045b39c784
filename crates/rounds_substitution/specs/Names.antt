-- The names of an item: the Name elements in its first names element.
use Rattle.std.specs.Prelude.{Bool, true, false, cond, List, [], ◌∷◌, ◌++◌, Option, None, Some}
use Rattle.value_trees.specs.Child.{Child, text, elem, markup, link, transparent, Kids, no_kids, kid, kids_of}
use Rattle.value_trees.specs.Tree.{elem_of, find_elem, has_names}
use Rattle.value_trees.specs.declared.elem.Elem.{Elem}
use Rattle.value_trees.specs.declared.elem.ElemMeta.{ElemMeta}
use Rattle.value_trees.specs.declared.elem.ElemMeta.TheVariants as meta

abbrev pub is_name_meta : ElemMeta → Bool
is_name_meta (meta.Name v i) = true
is_name_meta _ = false

-- an element's meta is Name
abbrev pub is_name : Elem → Bool
is_name e = elim e.meta [ None ↦ false | Some m ↦ is_name_meta m ]

-- the Name elements in a tree from left to right; one inside another isn't a name of its own
abbrev mutual
  pub child_names : Child → List Elem
  child_names (text f) = []
  child_names (elem ks d m) = cond (is_name (elem_of ks d m)) (elem_of ks d m ∷ []) (kids_names ks)
  child_names (markup s) = []
  child_names (link f s) = []
  child_names (transparent i f) = []

  pub kids_names : Kids → List Elem
  kids_names no_kids = []
  kids_names (kid c ks) = child_names c ++ kids_names ks

abbrev pub names_in : List Child → List Elem
names_in cs = kids_names (kids_of cs)

-- the names of a names element
abbrev pub names_within : Elem → List Elem
names_within e = names_in e.children

-- the first names element of an item's tree
abbrev pub names_element : List Child → Option Elem
names_element cs = find_elem has_names cs
