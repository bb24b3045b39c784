-- The document that some bytes are.
use Rattle.std.specs.Prelude.{ℕ, List, [], ◌∷◌, Option, Some, None, codes, map, if◌then◌else◌}
use Rattle.std.specs.Str.{is_utf8}
use Rattle.std.specs.declared.convert.Infallible.{Infallible}
use Rattle.serde_json.specs.Data.{Data}
use Rattle.serde_json.specs.Read.{read}
use Rattle.value_sources.specs.declared.entry.PlainEntry.{PlainEntry}
use Rattle.value_styles.specs.Style.{LocaleValue, StyleValue}
use Rattle.driver_passes.specs.Class.{is_note}
use Rattle.driver_passes.specs.Request.{Request}
use Rattle.document_values.specs.Words.{◌>>=◌, object_with, required, optional, items_of_key, optional_items, whole}
use Rattle.document_styles.specs.Locales.{locale_form}
use Rattle.document_styles.specs.Styles.{styles_form, style_named}
use Rattle.document_requests.specs.Entries.{entry_form, entry_named}
use Rattle.document_requests.specs.Requests.{RequestOf, WantedOf, request_form, wanted_form}
use Rattle.document_requests.specs.Rounds.{rounds_form}
use Rattle.document_requests.specs.declared.rounds.Rounds.{Rounds}

-- a document: its requests; the style, the locale and the order of the bibliography; the locales;
-- the number of the first entry; and how works are told apart
pub record Document : Type 0 where
  pub requests : List (Request PlainEntry Infallible)
  pub style : StyleValue
  pub locale : Option (List ℕ)
  pub locales : List LocaleValue
  pub order : Option (List PlainEntry)
  pub offset : ℕ
  pub rounds : Rounds

-- what is asked for, of styles and entries, or of their indexes
pub record Asked (S E : Type 0) : Type 0 where
  pub requests : List (RequestOf S E)
  pub wanted : WantedOf S E
  pub offset : ℕ
  pub rounds : Rounds

-- what is asked for, with styles looked up by name and entries by key
unfoldable pub asked_form : {S E : Type 0} → (List ℕ → Option S) → (List ℕ → Option E) → Data
    → Option (Asked S E)
asked_form style entry o = do
  rounds ← rounds_form o
  requests ← items_of_key (request_form style entry rounds) (codes "requests") o
  wanted ← required (wanted_form style entry) (codes "bibliography") o
  offset ← optional 0 whole (codes "offset") o
  Some (record { requests = requests; wanted = wanted; offset = offset; rounds = rounds })

-- a request with these locales; the note number is kept where the style's cites stand in notes
abbrev pub request_with : List LocaleValue → RequestOf StyleValue PlainEntry
    → Request PlainEntry Infallible
request_with locales r = record {
  cites = r.cites;
  style = r.style;
  locale = r.locale;
  locales = locales;
  note_number = (if is_note r.style.class then r.note_number else None);
}

-- the document that asks for this, with these locales
abbrev pub document_of : List LocaleValue → Asked StyleValue PlainEntry → Document
document_of locales a = record {
  requests = map (request_with locales) a.requests;
  style = a.wanted.style;
  locale = a.wanted.locale;
  locales = locales;
  order = a.wanted.order;
  offset = a.offset;
  rounds = a.rounds;
}

-- an object of the document's keys
abbrev pub top_form : Data → Option Data
top_form d = object_with (codes "styles" ∷ codes "locales" ∷ codes "entries" ∷ codes "requests"
    ∷ codes "bibliography" ∷ codes "offset" ∷ codes "rounds" ∷ []) d

-- the document that a value is, or none; a name finds the style of that name, and a key the first
-- entry that has it
unfoldable pub document_form : Data → Option Document
document_form d = do
  o ← top_form d
  styles ← styles_form o
  locales ← optional_items locale_form (codes "locales") o
  entries ← items_of_key entry_form (codes "entries") o
  asked ← asked_form (style_named styles) (entry_named entries) o
  Some (document_of locales asked)

-- the text that the bytes are, if they are UTF-8
abbrev pub utf8_text : List ℕ → Option (List ℕ)
utf8_text bytes = if is_utf8 bytes then Some bytes else None

-- the value that the bytes are, or none
unfoldable pub value_in : List ℕ → Option Data
value_in bytes = do
  text ← utf8_text bytes
  read text

-- the document that the bytes are, or none
unfoldable pub form : List ℕ → Option Document
form bytes = do
  value ← value_in bytes
  document_form value
