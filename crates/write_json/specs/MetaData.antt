-- The JSON of what an element was rendered for.
use Rattle.std.specs.Prelude.{ℕ, List, map, codes, Option, None, Some}
use Rattle.serde_json.specs.Data.{Data, string, number, unsigned, array, object, Items, no_items, item, no_members, member}
use Rattle.serde_json.specs.View.{items_of}
use Rattle.value_sources.specs.declared.entry.Person.{Person}
use Rattle.value_sources.specs.declared.taxonomy.NameVariable.{NameVariable}
use Rattle.value_sources.specs.declared.taxonomy.NameVariable.TheVariants as variable
use Rattle.value_trees.specs.declared.elem.ElemMeta.{ElemMeta}
use Rattle.value_trees.specs.declared.elem.ElemMeta.TheVariants as meta

abbrev pub variable_name : NameVariable → List ℕ
variable_name variable.Author = codes "author"
variable_name variable.Editor = codes "editor"
variable_name variable.Translator = codes "translator"

abbrev pub given_items : Option (List ℕ) → Items
given_items None = no_items
given_items (Some given) = item (string given) no_items

-- the family name, and then the given name, if there is one
abbrev pub person_data : Person → Data
person_data p = array (item (string p.name) (given_items p.given_name))

-- the persons of a variable
abbrev pub names_data : List Person × NameVariable → Data
names_data n = object (member (codes "persons") (array (items_of (map person_data n.0)))
    (member (codes "variable") (string (variable_name n.1)) no_members))

-- one name of a variable, and its place
abbrev pub name_data : NameVariable → ℕ → Data
name_data v place = object
    (member (codes "place") (number (unsigned place))
    (member (codes "variable") (string (variable_name v)) no_members))

abbrev pub meta_data : ElemMeta → Data
meta_data (meta.Names names) =
    object (member (codes "names") (array (items_of (map names_data names))) no_members)
meta_data (meta.Name v place) = object (member (codes "name") (name_data v place) no_members)
meta_data meta.Date = string (codes "date")
meta_data meta.CitationNumber = string (codes "citation-number")
meta_data meta.CitationLabel = string (codes "citation-label")
meta_data (meta.Entry place) = object (member (codes "entry") (number (unsigned place)) no_members)
