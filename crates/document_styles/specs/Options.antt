-- The form of name options.
use Rattle.std.specs.Prelude.{[], ◌∷◌, Option, Some, None, codes}
use Rattle.serde_json.specs.Data.{Data}
use Rattle.serde_json.specs.Find.{as_str}
use Rattle.value_styles.specs.Element.{NameOptions}
use Rattle.value_styles.specs.PlainLook.{no_options}
use Rattle.document_values.specs.Words.{◌>>=◌, object_with, optional, where_present, whole}
use Rattle.document_values.specs.Names.{one_of}
use Rattle.document_values.specs.Tables.{name_ands, name_forms}

-- the options of names
unfoldable pub options_form : Data → Option NameOptions
options_form d = do
  o ← object_with (codes "and" ∷ codes "name_delimiter" ∷ codes "names_delimiter"
      ∷ codes "et_al_min"
      ∷ codes "et_al_use_first" ∷ codes "name_form" ∷ codes "initialize_with" ∷ []) d
  word ← where_present (one_of name_ands) (codes "and") o
  name_delimiter ← where_present as_str (codes "name_delimiter") o
  names_delimiter ← where_present as_str (codes "names_delimiter") o
  et_al_min ← where_present whole (codes "et_al_min") o
  et_al_use_first ← where_present whole (codes "et_al_use_first") o
  form ← where_present (one_of name_forms) (codes "name_form") o
  initialize_with ← where_present as_str (codes "initialize_with") o
  Some (record {
    and = word;
    name_delimiter = name_delimiter;
    names_delimiter = names_delimiter;
    et_al_min = et_al_min;
    et_al_use_first = et_al_use_first;
    name_form = form;
    initialize_with = initialize_with;
  })

-- the options under `options`; none is given where the key is absent
abbrev pub options_at : Data → Option NameOptions
options_at = optional no_options options_form (codes "options")
