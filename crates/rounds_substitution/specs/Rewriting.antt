-- What is written into the children of a names element.
use Rattle.std.specs.Prelude.{ℕ, zero, suc, ◌+◌, Bool, false, cond, List, [], ◌∷◌, ◌++◌, is_some, map, take, drop}
use Rattle.std.specs.List.{position_or_len}
use Rattle.value_trees.specs.Child.{Child, text, elem, markup, link, transparent, Kids, no_kids, kid, kids_of, list_of}
use Rattle.value_trees.specs.Tree.{elem_of, child_find}
use Rattle.value_trees.specs.declared.elem.Elem.{Elem}
use Rattle.value_sources.specs.declared.formatting.Formatted.{Formatted}
use Rattle.rounds_substitution.specs.Names.{is_name}
use Rattle.rounds_substitution.specs.declared.changes.Change.{Change}
use Rattle.rounds_substitution.specs.declared.changes.Change.TheVariants.{SubstituteAlone, WithoutNames, EachNameReplaced, FirstNamesReplaced}

-- the child is a Name element
abbrev pub child_is_name : Child → Bool
child_is_name (text f) = false
child_is_name (elem ks d m) = is_name (elem_of ks d m)
child_is_name (markup s) = false
child_is_name (link f s) = false
child_is_name (transparent i f) = false

-- the Name elements taken out at every depth
abbrev mutual
  pub child_without_names : Child → Child
  child_without_names (text f) = text f
  child_without_names (elem ks d m) = elem (kids_of (kids_without_names ks)) d m
  child_without_names (markup s) = markup s
  child_without_names (link f s) = link f s
  child_without_names (transparent i f) = transparent i f

  pub kids_without_names : Kids → List Child
  kids_without_names no_kids = []
  kids_without_names (kid c ks) =
      cond (child_is_name c) (kids_without_names ks) (child_without_names c ∷ kids_without_names ks)

abbrev pub without_names : List Child → List Child
without_names cs = kids_without_names (kids_of cs)

-- the child is a Name element, or one stands in it
abbrev pub holds_name : Child → Bool
holds_name c = is_some (child_find is_name c)

-- the text in place of what the first Name element in preorder has as children
abbrev mutual
  pub name_replaced : Formatted → Child → Child
  name_replaced substitute (text f) = text f
  name_replaced substitute (elem ks d m) =
      cond (is_name (elem_of ks d m)) (elem (kid (text substitute) no_kids) d m)
      (elem (kids_of (kids_name_replaced substitute ks)) d m)
  name_replaced substitute (markup s) = markup s
  name_replaced substitute (link f s) = link f s
  name_replaced substitute (transparent i f) = transparent i f

  pub kids_name_replaced : Formatted → Kids → List Child
  kids_name_replaced substitute no_kids = []
  kids_name_replaced substitute (kid c ks) =
      cond (holds_name c) (name_replaced substitute c ∷ list_of ks)
      (c ∷ kids_name_replaced substitute ks)

-- the same among the children of a tree
abbrev pub first_name_replaced : Formatted → List Child → List Child
first_name_replaced substitute cs = kids_name_replaced substitute (kids_of cs)

-- the children up to the first that holds a name, then those up to the next such, and so on n
-- times; all where fewer do
abbrev pub up_to_names : ℕ → List Child → List Child
up_to_names zero cs = []
up_to_names (suc n) cs = take (position_or_len holds_name cs + 1) cs
    ++ up_to_names n (drop (position_or_len holds_name cs + 1) cs)

-- the children after a change: the substitute alone; the substitute, and what is left without the
-- names; the substitute, and the children with the substitute in the first name of each; the same
-- up to n names
abbrev pub changed : Formatted → Change → List Child → List Child
changed substitute SubstituteAlone cs = text substitute ∷ []
changed substitute WithoutNames cs = text substitute ∷ without_names cs
changed substitute EachNameReplaced cs = text substitute ∷ map (name_replaced substitute) cs
changed substitute (FirstNamesReplaced n) cs =
    text substitute ∷ map (name_replaced substitute) (up_to_names n cs)

-- a names element after a change
abbrev pub elem_changed : Formatted → Change → Elem → Elem
elem_changed substitute change own =
    record own { children = changed substitute change own.children }
