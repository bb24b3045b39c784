-- The form of locales.
use Rattle.std.specs.Prelude.{[], ◌∷◌, Option, Some, codes}
use Rattle.serde_json.specs.Data.{Data}
use Rattle.serde_json.specs.Find.{as_bool, as_str}
use Rattle.value_sources.specs.declared.taxonomy.TermForm.{TermForm}
use Rattle.value_styles.specs.Style.{TermValue, LocaleValue}
use Rattle.document_values.specs.Words.{◌>>=◌, object_with, required, optional, where_present, optional_items, name_form}
use Rattle.document_values.specs.Names.{one_of, term_named}
use Rattle.document_values.specs.Tables.{term_forms}

-- a term's words in one form
unfoldable pub term_form : Data → Option TermValue
term_form d = do
  o ← object_with (codes "name" ∷ codes "form" ∷ codes "single" ∷ codes "multiple" ∷ []) d
  name ← required (name_form term_named) (codes "name") o
  form ← optional TermForm.Long (one_of term_forms) (codes "form") o
  single ← where_present as_str (codes "single") o
  multiple ← where_present as_str (codes "multiple") o
  Some (record { name = name; form = form; single = single; multiple = multiple })

-- a locale
unfoldable pub locale_form : Data → Option LocaleValue
locale_form d = do
  o ← object_with (codes "lang" ∷ codes "punctuation_in_quote" ∷ codes "terms" ∷ []) d
  lang ← where_present as_str (codes "lang") o
  punctuation_in_quote ← where_present as_bool (codes "punctuation_in_quote") o
  terms ← optional_items term_form (codes "terms") o
  Some (record { lang = lang; terms = terms; punctuation_in_quote = punctuation_in_quote })
