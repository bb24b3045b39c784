-- The names of an item of a bibliography.
use Rattle.std.specs.Prelude.{ℕ, Bool, true, false, List, [], ◌∷◌, ◌++◌, Option, Some, map, option_map, if◌then◌else◌}
use Rattle.value_sources.specs.declared.entry.Person.{Person}
use Rattle.value_sources.specs.declared.taxonomy.NameVariable.{NameVariable}
use Rattle.value_trees.specs.Child.{Child, text, elem, markup, link, transparent, Kids, no_kids, kid, kids_of}
use Rattle.value_trees.specs.Tree.{find_elem, has_names, kids_plain}
use Rattle.value_trees.specs.declared.elem.Elem.{Elem}
use Rattle.value_trees.specs.declared.elem.ElemMeta.{ElemMeta}
use Rattle.mentions_authors.specs.declared.repeated.ItemNames.{ItemNames}

-- an element with this meta is a name
abbrev pub is_name : Option ElemMeta → Bool
is_name (Some (ElemMeta.Name variable place)) = true
is_name _ = false

-- how the names in a tree read, from left to right; a name inside another isn't one of its own
abbrev mutual
  pub child_names : Child → List (List ℕ)
  child_names (text f) = []
  child_names (elem ks d m) = if is_name m then kids_plain ks ∷ [] else kids_names ks
  child_names (markup s) = []
  child_names (link f s) = []
  child_names (transparent i f) = []

  pub kids_names : Kids → List (List ℕ)
  kids_names no_kids = []
  kids_names (kid c ks) = child_names c ++ kids_names ks

abbrev pub names_within : List Child → List (List ℕ)
names_within tree = kids_names (kids_of tree)

-- the variables of a names element, with their persons
abbrev pub variables_of : Option ElemMeta → List (List Person × NameVariable)
variables_of (Some (ElemMeta.Names variables)) = variables
variables_of _ = []

abbrev pub persons_of : List (List Person × NameVariable) → List (List Person)
persons_of variables = map (λ v. v.0) variables

-- a names element: how its names read, and the persons of all its variables, shown or not
abbrev pub names_in : Elem → ItemNames (List ℕ) (List (List Person))
names_in e = record {
  names = names_within e.children;
  persons = persons_of (variables_of e.meta);
}

-- the first names element of an item's tree, if it has one
abbrev pub names_of : List Child → Option (ItemNames (List ℕ) (List (List Person)))
names_of tree = option_map names_in (find_elem has_names tree)
