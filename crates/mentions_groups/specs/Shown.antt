-- Names as they are shown, and whose they are.
use Rattle.std.specs.Prelude.{ℕ, List, [], ◌++◌, None, Option, Some, find, option_map, slice_get}
use Rattle.std.specs.Option.{option_and_then, option_to_list}
use Rattle.value_sources.specs.PlainEntry.{same_name_variable}
use Rattle.value_sources.specs.declared.entry.Person.{Person}
use Rattle.value_sources.specs.declared.taxonomy.NameVariable.{NameVariable}
use Rattle.value_trees.specs.Child.{Child, text, elem, markup, link, transparent, Kids, no_kids, kid, kids_of}
use Rattle.value_trees.specs.Tree.{find_elem, has_names, plain}
use Rattle.value_trees.specs.declared.elem.Elem.{Elem}
use Rattle.value_trees.specs.declared.elem.ElemMeta.{ElemMeta}
use Rattle.mentions_groups.specs.declared.shown.ShownNames.{ShownNames}

-- the variables of a names element, with their persons
abbrev pub variables_of : Option ElemMeta → List (List Person × NameVariable)
variables_of (Some (ElemMeta.Names variables)) = variables
variables_of _ = []

-- the variable of a name, and its place among the persons of that
abbrev pub named_at : Option ElemMeta → Option (NameVariable × ℕ)
named_at (Some (ElemMeta.Name variable place)) = Some (variable, place)
named_at _ = None

module _ (variables : List (List Person × NameVariable)) where
  -- the person at a place of a variable
  abbrev pub person_at : NameVariable → ℕ → Option Person
  person_at variable place = option_and_then (λ p. slice_get p.0 place)
      (find (λ p. same_name_variable p.1 variable) variables)

  -- the persons of the names in a tree, from left to right; a name inside another isn't a name
  -- of its own
  abbrev mutual
    pub child_persons : Child → List Person
    child_persons (text f) = []
    child_persons (elem ks d m) = elim (named_at m)
        [ None ↦ kids_persons ks | Some p ↦ option_to_list (person_at p.0 p.1) ]
    child_persons (markup s) = []
    child_persons (link f s) = []
    child_persons (transparent i f) = []

    pub kids_persons : Kids → List Person
    kids_persons no_kids = []
    kids_persons (kid c ks) = child_persons c ++ kids_persons ks

  abbrev pub persons_in : List Child → List Person
  persons_in tree = kids_persons (kids_of tree)

-- a names element, as it is shown
abbrev pub shown_in : Elem → ShownNames
shown_in names = record {
  text = plain names.children;
  persons = persons_in (variables_of names.meta) names.children;
}

-- the first names of a tree
abbrev pub shown_names : List Child → Option ShownNames
shown_names tree = option_map shown_in (find_elem has_names tree)
