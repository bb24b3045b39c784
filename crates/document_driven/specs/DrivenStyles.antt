-- The form of driven styles: those of a host, which have a name in place of layouts.
use Rattle.std.specs.Prelude.{ℕ, pos, List, [], ◌∷◌, Option, Some, None, codes}
use Rattle.serde_json.specs.Data.{Data, no_members, member, Members, object}
use Rattle.serde_json.specs.Find.{as_object, as_str}
use Rattle.value_styles.specs.Element.{Elements, no_elements}
use Rattle.value_styles.specs.PlainLook.{no_options, no_formatting}
use Rattle.value_styles.specs.Style.{LayoutValue, CitationValue, BibliographyValue, StyleValue}
use Rattle.value_sources.specs.declared.formatting.StyleFormatting.{StyleFormatting}
use Rattle.value_styles.specs.declared.style.DisambiguationRule.{DisambiguationRule}
use Rattle.value_styles.specs.declared.style.StyleClass.{StyleClass}
use Rattle.value_styles.specs.declared.style.SubsequentAuthorSubstituteRule.{SubsequentAuthorSubstituteRule}
use Rattle.host_memo.specs.HostStyle.{one_text}
use Rattle.document_values.specs.Names.{one_of}
use Rattle.document_values.specs.Tables.{given_name_rules, collapses, second_field_aligns, substitute_rules, classes}
use Rattle.document_values.specs.Words.{◌>>=◌, object_with, required, optional, where_present, flag, member_form, whole}
use Rattle.document_styles.specs.Styles.{NamedStyle, line_spacing, single, spacing}

-- ---- layouts

-- the layout of these elements, with the affixes and the delimiter that an object's own keys say
unfoldable pub affixes_form : Elements → Data → Option LayoutValue
affixes_form elements o = do
  prefix ← where_present as_str (codes "prefix") o
  suffix ← where_present as_str (codes "suffix") o
  delimiter ← where_present as_str (codes "delimiter") o
  Some (record {
    elements = elements;
    formatting = no_formatting;
    prefix = prefix;
    suffix = suffix;
    delimiter = delimiter;
  })

-- the layout of nothing
abbrev pub no_layout : LayoutValue
no_layout = record {
  elements = no_elements;
  formatting = no_formatting;
  prefix = None;
  suffix = None;
  delimiter = None;
}

abbrev pub driven_citation_keys : List (List ℕ)
driven_citation_keys =
    codes "prefix" ∷ codes "suffix" ∷ codes "delimiter" ∷ codes "add_givenname"
    ∷ codes "givenname_rule"
    ∷ codes "add_names" ∷ codes "add_year_suffix" ∷ codes "cite_group_delimiter"
    ∷ codes "year_suffix_delimiter" ∷ codes "after_collapse_delimiter" ∷ codes "collapse"
    ∷ codes "near_note_distance" ∷ []

-- how a style of this name writes citations
unfoldable pub driven_citation_form : List ℕ → Data → Option CitationValue
driven_citation_form name d = do
  o ← object_with driven_citation_keys d
  layout ← affixes_form (one_text name) o
  add_givenname ← flag (codes "add_givenname") o
  rule ← optional DisambiguationRule.ByCite (one_of given_name_rules) (codes "givenname_rule") o
  add_names ← flag (codes "add_names") o
  add_year_suffix ← flag (codes "add_year_suffix") o
  group_delimiter ← where_present as_str (codes "cite_group_delimiter") o
  suffix_delimiter ← where_present as_str (codes "year_suffix_delimiter") o
  after_collapse ← where_present as_str (codes "after_collapse_delimiter") o
  collapse ← where_present (one_of collapses) (codes "collapse") o
  distance ← optional 5 whole (codes "near_note_distance") o
  Some (record {
    layout = layout;
    disambiguate_add_givenname = add_givenname;
    givenname_disambiguation_rule = rule;
    disambiguate_add_names = add_names;
    disambiguate_add_year_suffix = add_year_suffix;
    cite_group_delimiter = group_delimiter;
    year_suffix_delimiter = suffix_delimiter;
    after_collapse_delimiter = after_collapse;
    collapse = collapse;
    near_note_distance = distance;
    name_options = no_options;
  })

-- the same under its key; where that is absent, as of an object that has no keys
abbrev pub driven_citation : List ℕ → Data → Option CitationValue
driven_citation name o = do
  d ← optional (object no_members) Some (codes "citation") o
  driven_citation_form name d

abbrev pub driven_bibliography_keys : List (List ℕ)
driven_bibliography_keys =
    codes "hanging_indent" ∷ codes "second_field_align" ∷ codes "line_spacing"
    ∷ codes "entry_spacing"
    ∷ codes "substitute" ∷ codes "substitute_rule" ∷ []

-- how a style writes its bibliography
unfoldable pub driven_bibliography_form : Data → Option BibliographyValue
driven_bibliography_form d = do
  o ← object_with driven_bibliography_keys d
  hanging_indent ← flag (codes "hanging_indent") o
  align ← where_present (one_of second_field_aligns) (codes "second_field_align") o
  lines ← optional single line_spacing (codes "line_spacing") o
  entries ← optional (pos 1) spacing (codes "entry_spacing") o
  substitute ← where_present as_str (codes "substitute") o
  rule ← optional SubsequentAuthorSubstituteRule.CompleteAll (one_of substitute_rules)
      (codes "substitute_rule") o
  Some (record {
    layout = no_layout;
    hanging_indent = hanging_indent;
    second_field_align = align;
    line_spacing = lines;
    entry_spacing = entries;
    subsequent_author_substitute = substitute;
    subsequent_author_substitute_rule = rule;
    name_options = no_options;
  })

-- ---- styles

abbrev pub driven_style_keys : List (List ℕ)
driven_style_keys = codes "class" ∷ codes "default_locale" ∷ codes "citation"
    ∷ codes "bibliography" ∷ []

-- the style of this name
unfoldable pub driven_style_form : List ℕ → Data → Option StyleValue
driven_style_form name d = do
  o ← object_with driven_style_keys d
  class ← optional StyleClass.InText (one_of classes) (codes "class") o
  default_locale ← where_present as_str (codes "default_locale") o
  citation ← driven_citation name o
  bibliography ← where_present driven_bibliography_form (codes "bibliography") o
  Some (record {
    categories = [];
    class = class;
    options = no_options;
    default_locale = default_locale;
    locale = [];
    macros = [];
    citation = citation;
    bibliography = bibliography;
  })

-- the styles that members are, each under its name
abbrev pub driven_members : Members → Option (List NamedStyle)
driven_members no_members = Some []
driven_members (member name d ms) = do
  style ← member_form (driven_style_form name) name d
  styles ← driven_members ms
  Some (style ∷ styles)

-- the driven styles of an object, by their names
unfoldable pub driven_styles_form : Data → Option (List NamedStyle)
driven_styles_form o = do
  members ← required as_object (codes "styles") o
  driven_members members
