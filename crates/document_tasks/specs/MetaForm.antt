-- The form of what an element was rendered for.
use Rattle.std.specs.Prelude.{ℕ, List, [], ◌∷◌, Option, Some, None, option_map, is_some, nat_eq, codes, if◌then◌else◌}
use Rattle.std.specs.Cmp.Lexicographic.{pointwise}
use Rattle.document_requests.specs.Entries.{person_form}
use Rattle.serde_json.specs.Data.{Data}
use Rattle.serde_json.specs.Find.{get, as_str}
use Rattle.value_trees.specs.declared.elem.ElemMeta.{ElemMeta}
use Rattle.value_sources.specs.declared.entry.Person.{Person}
use Rattle.value_sources.specs.declared.taxonomy.NameVariable.{NameVariable}
use Rattle.document_values.specs.Words.{◌>>=◌, object_with, required, items_of_key, whole}
use Rattle.document_values.specs.Names.{one_of}
use Rattle.document_values.specs.Tables.{name_variables}

-- a variable and its persons
unfoldable pub names_meta_form : Data → Option (List Person × NameVariable)
names_meta_form d = do
  o ← object_with (codes "persons" ∷ codes "variable" ∷ []) d
  persons ← items_of_key person_form (codes "persons") o
  variable ← required (one_of name_variables) (codes "variable") o
  Some (persons, variable)

-- one name of a variable
unfoldable pub name_meta_form : Data → Option ElemMeta
name_meta_form d = do
  o ← object_with (codes "place" ∷ codes "variable" ∷ []) d
  place ← required whole (codes "place") o
  variable ← required (one_of name_variables) (codes "variable") o
  Some (ElemMeta.Name variable place)

-- what has a name alone
abbrev pub meta_named : List ℕ → Option ElemMeta
meta_named s =
    if pointwise nat_eq s (codes "date") then Some ElemMeta.Date else
    (if pointwise nat_eq s (codes "citation-number") then Some ElemMeta.CitationNumber else
    (if pointwise nat_eq s (codes "citation-label") then Some ElemMeta.CitationLabel else None))

-- an object of one key, which says what it is
unfoldable pub entry_meta : Data → Option ElemMeta
entry_meta d = do
  o ← object_with (codes "entry" ∷ []) d
  option_map ElemMeta.Entry (required whole (codes "entry") o)

unfoldable pub name_meta : Data → Option ElemMeta
name_meta d = do
  o ← object_with (codes "name" ∷ []) d
  required name_meta_form (codes "name") o

unfoldable pub names_meta : Data → Option ElemMeta
names_meta d = do
  o ← object_with (codes "names" ∷ []) d
  option_map ElemMeta.Names (items_of_key names_meta_form (codes "names") o)

abbrev pub object_meta : Data → Option ElemMeta
object_meta d =
    if is_some (get (codes "entry") d) then entry_meta d else
    (if is_some (get (codes "name") d) then name_meta d else names_meta d)

-- a name, or such an object
unfoldable pub meta_form : Data → Option ElemMeta
meta_form d = elim (as_str d) [ Some s ↦ meta_named s | None ↦ object_meta d ]
