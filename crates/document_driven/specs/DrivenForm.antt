-- The driven document that some bytes are.
use Rattle.std.specs.Prelude.{ℕ, List, [], ◌∷◌, Option, Some, None, codes}
use Rattle.serde_json.specs.Data.{Data}
use Rattle.value_sources.specs.declared.entry.PlainEntry.{PlainEntry}
use Rattle.host_memo.specs.declared.key.TaskKey.{TaskKey}
use Rattle.driver_writers.specs.declared.cite.Cite.{Cite}
use Rattle.document_values.specs.Words.{◌>>=◌, object_with, items_of_key, optional}
use Rattle.document_styles.specs.Styles.{NamedStyle, style_named}
use Rattle.document_requests.specs.Entries.{entry_form, entry_named}
use Rattle.document_requests.specs.Form.{Document, asked_form, document_of, value_in}
use Rattle.document_tasks.specs.WrittenForm.{table_form}
use Rattle.document_driven.specs.DrivenStyles.{driven_styles_form}

-- a driven document: what it asks for, and what its host has written, by what was asked for
pub record DrivenDocument : Type 0 where
  pub document : Document
  pub table : TaskKey → Option Cite

-- what was written of these styles and entries, by what was asked for; nothing where the key is
-- absent
abbrev pub written_at : List NamedStyle → List PlainEntry → Data → Option (TaskKey → Option Cite)
written_at styles entries = optional (λ key. None) (table_form styles entries) (codes "written")

-- what is asked for, of the styles and entries that names and keys find, and what was written
unfoldable pub driven_by : List NamedStyle → List PlainEntry → Data → Option DrivenDocument
driven_by styles entries o = do
  asked ← asked_form (style_named styles) (entry_named entries) o
  table ← written_at styles entries o
  Some (record { document = document_of [] asked; table = table })

-- an object of the keys of a driven document
abbrev pub driven_top_form : Data → Option Data
driven_top_form d = object_with
    (codes "styles" ∷ codes "entries" ∷ codes "requests" ∷ codes "bibliography"
    ∷ codes "offset" ∷ codes "rounds" ∷ codes "written" ∷ []) d

-- the driven document that a value is, or none; a name finds the style of that name, and a key the
-- first entry that has it
unfoldable pub driven_document_form : Data → Option DrivenDocument
driven_document_form d = do
  o ← driven_top_form d
  styles ← driven_styles_form o
  entries ← items_of_key entry_form (codes "entries") o
  driven_by styles entries o

-- the driven document that the bytes are, or none
unfoldable pub driven_form : List ℕ → Option DrivenDocument
driven_form bytes = do
  value ← value_in bytes
  driven_document_form value
