-- The form of entries.
use Rattle.std.specs.Prelude.{ℕ, pos, negsuc, List, [], ◌∷◌, ◌++◌, Option, Some, None, option_map, option_and_then, nat_eq, codes, find, take, drop}
use Rattle.std.specs.Cmp.Lexicographic.{pointwise}
use Rattle.serde_json.specs.Data.{Data, Items, no_items, item}
use Rattle.serde_json.specs.Find.{as_array, as_str}
use Rattle.value_sources.specs.declared.entry.ChunkKind.{ChunkKind}
use Rattle.value_sources.specs.declared.entry.ChunkedString.{ChunkedString}
use Rattle.value_sources.specs.declared.entry.Date.{Date}
use Rattle.value_sources.specs.declared.entry.Person.{Person}
use Rattle.value_sources.specs.declared.entry.PlainEntry.{PlainEntry}
use Rattle.document_values.specs.Words.{◌>>=◌, object_with, required, where_present, list_form, whole_between}
use Rattle.document_values.specs.Tables.{NameTable, name_variables, date_variables, standard_variables, number_variables}

-- ---- what variables hold

-- a person: a family name, or a family name and a given name
abbrev pub person_of : Items → Option Person
person_of (item family no_items) =
    option_map (λ name. record { name = name; given_name = None }) (as_str family)
person_of (item family (item given no_items)) = do
  name ← as_str family
  given_name ← as_str given
  Some (record { name = name; given_name = Some given_name })
person_of _ = None

abbrev pub person_form : Data → Option Person
person_form d = option_and_then person_of (as_array d)

-- a date: its year, of 32 bits
abbrev pub year_form : Data → Option Date
year_form d = option_map (λ year. record { year = year })
    (whole_between (negsuc 2147483647) (pos 2147483647) d)

-- a text of one piece
abbrev pub chunked : List ℕ → ChunkedString
chunked text = record { 0 = record { value = text; kind = ChunkKind.Normal } ∷ [] }

abbrev pub chunked_form : Data → Option ChunkedString
chunked_form d = option_map chunked (as_str d)

-- ---- entries

-- a variable and what it holds, if it holds something
abbrev pub pairs_of : {V A : Type 0} → V → Option A → List (V × A)
pairs_of variable None = []
pairs_of variable (Some x) = (variable, x) ∷ []

-- what the object says of the table's variables, each of the form f, in the table's order
abbrev pub pairs_at : {V A : Type 0} → NameTable V → (Data → Option A) → Data
    → Option (List (V × A))
pairs_at [] f o = Some []
pairs_at (row ∷ rows) f o = do
  held ← where_present f row.0 o
  pairs ← pairs_at rows f o
  Some (pairs_of row.1 held ++ pairs)

abbrev pub entry_keys : List (List ℕ)
entry_keys =
    codes "key" ∷ codes "label" ∷ codes "author" ∷ codes "editor" ∷ codes "translator"
    ∷ codes "issued" ∷ codes "accessed" ∷ codes "available-date" ∷ codes "event-date"
    ∷ codes "submitted"
    ∷ codes "original-date"
    ∷ codes "title" ∷ codes "container-title" ∷ codes "publisher" ∷ codes "publisher-place"
    ∷ codes "note"
    ∷ codes "url" ∷ codes "doi"
    ∷ codes "volume" ∷ codes "issue" ∷ codes "number" ∷ codes "edition" ∷ []

-- an entry; the last two of the texts and the first three of the numbers are no entry's
unfoldable pub entry_form : Data → Option PlainEntry
entry_form d = do
  o ← object_with entry_keys d
  key ← required as_str (codes "key") o
  label ← where_present as_str (codes "label") o
  names ← pairs_at name_variables (list_form person_form) o
  dates ← pairs_at date_variables year_form o
  texts ← pairs_at (take 7 standard_variables) chunked_form o
  numbers ← pairs_at (drop 3 number_variables) as_str o
  Some (record {
    key = key;
    label = label;
    names = names;
    dates = dates;
    texts = texts;
    numbers = numbers;
  })

-- the first entry that has the key
abbrev pub entry_named : List PlainEntry → List ℕ → Option PlainEntry
entry_named entries key = find (λ e. pointwise nat_eq e.key key) entries
