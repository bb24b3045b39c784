-- The form of styles.
use Rattle.std.specs.Prelude.{ℕ, ℤ, pos, negsuc, zero, suc, List, [], ◌∷◌, Option, Some, None, option_and_then, option_map, find, nat_eq, codes}
use Rattle.std.specs.declared.num.NonZeroI16.{NonZeroI16}
use Rattle.std.proofs.Math.Nat.{le_refl, zero-lt-suc}
use Rattle.std.specs.Cmp.Lexicographic.{pointwise}
use Rattle.serde_json.specs.Data.{Data}
use Rattle.serde_json.specs.Find.{as_object, as_str}
use Rattle.value_styles.specs.declared.style.DisambiguationRule.{DisambiguationRule}
use Rattle.value_styles.specs.declared.style.StyleClass.{StyleClass}
use Rattle.value_styles.specs.declared.style.SubsequentAuthorSubstituteRule.{SubsequentAuthorSubstituteRule}
use Rattle.value_styles.specs.Element.{Macro, elements_of}
use Rattle.value_styles.specs.Style.{LayoutValue, CitationValue, BibliographyValue, StyleValue}
use Rattle.document_values.specs.Words.{◌>>=◌, object_with, required, optional, where_present, flag, items_of_key, optional_items, all_members, whole, whole_between}
use Rattle.document_values.specs.Names.{one_of}
use Rattle.document_styles.specs.Options.{options_at}
use Rattle.document_styles.specs.Elements.{formatting_form, element_form}
use Rattle.document_styles.specs.Locales.{locale_form}
use Rattle.document_values.specs.Tables.{given_name_rules, collapses, second_field_aligns, substitute_rules, classes, categories}

-- ---- spacings

-- a whole number of 16 bits
abbrev pub spacing : Data → Option ℤ
spacing = whole_between (negsuc 32767) (pos 32767)

-- the spacing 1
abbrev pub single : NonZeroI16
single = record { value = pos 1; ok = le_refl 1 }

-- a number that isn't 0
abbrev pub non_zero : ℤ → Option NonZeroI16
non_zero (pos zero) = None
non_zero (pos (suc n)) = Some (record { value = pos (suc n); ok = zero-lt-suc n })
non_zero (negsuc n) = Some (record { value = negsuc n; ok = zero-lt-suc n })

-- a spacing that isn't 0
abbrev pub line_spacing : Data → Option NonZeroI16
line_spacing d = option_and_then non_zero (spacing d)

-- ---- layouts

-- the layout that an object's own keys say
unfoldable pub layout_form : Data → Option LayoutValue
layout_form o = do
  elements ← items_of_key element_form (codes "elements") o
  formatting ← formatting_form o
  prefix ← where_present as_str (codes "prefix") o
  suffix ← where_present as_str (codes "suffix") o
  delimiter ← where_present as_str (codes "delimiter") o
  Some (record {
    elements = elements_of elements;
    formatting = formatting;
    prefix = prefix;
    suffix = suffix;
    delimiter = delimiter;
  })

abbrev pub citation_keys : List (List ℕ)
citation_keys =
    codes "elements" ∷ codes "prefix" ∷ codes "suffix" ∷ codes "delimiter" ∷ codes "italic"
    ∷ codes "bold"
    ∷ codes "font_variant" ∷ codes "text_decoration" ∷ codes "vertical_align"
    ∷ codes "add_givenname" ∷ codes "givenname_rule" ∷ codes "add_names" ∷ codes "add_year_suffix"
    ∷ codes "cite_group_delimiter" ∷ codes "year_suffix_delimiter"
    ∷ codes "after_collapse_delimiter"
    ∷ codes "collapse"
    ∷ codes "near_note_distance" ∷ codes "options" ∷ []

-- how a style writes citations
unfoldable pub citation_form : Data → Option CitationValue
citation_form d = do
  o ← object_with citation_keys d
  layout ← layout_form o
  add_givenname ← flag (codes "add_givenname") o
  rule ← optional DisambiguationRule.ByCite (one_of given_name_rules) (codes "givenname_rule") o
  add_names ← flag (codes "add_names") o
  add_year_suffix ← flag (codes "add_year_suffix") o
  group_delimiter ← where_present as_str (codes "cite_group_delimiter") o
  suffix_delimiter ← where_present as_str (codes "year_suffix_delimiter") o
  after_collapse ← where_present as_str (codes "after_collapse_delimiter") o
  collapse ← where_present (one_of collapses) (codes "collapse") o
  distance ← optional 5 whole (codes "near_note_distance") o
  options ← options_at o
  Some (record {
    layout = layout;
    disambiguate_add_givenname = add_givenname;
    givenname_disambiguation_rule = rule;
    disambiguate_add_names = add_names;
    disambiguate_add_year_suffix = add_year_suffix;
    cite_group_delimiter = group_delimiter;
    year_suffix_delimiter = suffix_delimiter;
    after_collapse_delimiter = after_collapse;
    collapse = collapse;
    near_note_distance = distance;
    name_options = options;
  })

-- a bibliography's layout has no delimiter
abbrev pub bibliography_keys : List (List ℕ)
bibliography_keys =
    codes "elements" ∷ codes "prefix" ∷ codes "suffix" ∷ codes "italic" ∷ codes "bold"
    ∷ codes "font_variant" ∷ codes "text_decoration" ∷ codes "vertical_align"
    ∷ codes "hanging_indent" ∷ codes "second_field_align"
    ∷ codes "line_spacing" ∷ codes "entry_spacing" ∷ codes "substitute" ∷ codes "substitute_rule"
    ∷ codes "options" ∷ []

-- how a style writes its bibliography
unfoldable pub bibliography_form : Data → Option BibliographyValue
bibliography_form d = do
  o ← object_with bibliography_keys d
  layout ← layout_form o
  hanging_indent ← flag (codes "hanging_indent") o
  align ← where_present (one_of second_field_aligns) (codes "second_field_align") o
  lines ← optional single line_spacing (codes "line_spacing") o
  entries ← optional (pos 1) spacing (codes "entry_spacing") o
  substitute ← where_present as_str (codes "substitute") o
  rule ← optional SubsequentAuthorSubstituteRule.CompleteAll (one_of substitute_rules)
      (codes "substitute_rule") o
  options ← options_at o
  Some (record {
    layout = layout;
    hanging_indent = hanging_indent;
    second_field_align = align;
    line_spacing = lines;
    entry_spacing = entries;
    subsequent_author_substitute = substitute;
    subsequent_author_substitute_rule = rule;
    name_options = options;
  })

-- ---- styles

-- a macro
unfoldable pub macro_form : Data → Option Macro
macro_form d = do
  o ← object_with (codes "name" ∷ codes "children" ∷ []) d
  name ← required as_str (codes "name") o
  children ← items_of_key element_form (codes "children") o
  Some (record { name = name; children = elements_of children })

abbrev pub style_keys : List (List ℕ)
style_keys =
    codes "class" ∷ codes "categories" ∷ codes "default_locale" ∷ codes "locale" ∷ codes "options"
    ∷ codes "macros" ∷ codes "citation" ∷ codes "bibliography" ∷ []

-- a style
unfoldable pub style_form : Data → Option StyleValue
style_form d = do
  o ← object_with style_keys d
  class ← optional StyleClass.InText (one_of classes) (codes "class") o
  categories ← optional_items (one_of categories) (codes "categories") o
  default_locale ← where_present as_str (codes "default_locale") o
  locale ← optional_items locale_form (codes "locale") o
  options ← options_at o
  macros ← optional_items macro_form (codes "macros") o
  citation ← required citation_form (codes "citation") o
  bibliography ← where_present bibliography_form (codes "bibliography") o
  Some (record {
    categories = categories;
    class = class;
    options = options;
    default_locale = default_locale;
    locale = locale;
    macros = macros;
    citation = citation;
    bibliography = bibliography;
  })

-- a style and its name
abbrev pub NamedStyle : Type 0
NamedStyle = List ℕ × StyleValue

-- the style of this name
abbrev pub style_named : List NamedStyle → List ℕ → Option StyleValue
style_named styles name = option_map (λ s. s.1) (find (λ s. pointwise nat_eq s.0 name) styles)

-- the styles of an object, by their names
unfoldable pub styles_form : Data → Option (List NamedStyle)
styles_form o = do
  members ← required as_object (codes "styles") o
  all_members style_form members
