-- The plain data that locales and styles stand for.
use Rattle.std.specs.Prelude.{ℕ, List, map, option_map, string_bytes}
use Rattle.value_styles.specs.declared.locale.LocaleCode.{LocaleCode}
use Rattle.value_styles.specs.declared.locale.LocalizedTerm.{LocalizedTerm}
use Rattle.value_styles.specs.declared.locale.Locale.{Locale}
use Rattle.value_styles.specs.declared.style.Layout.{Layout}
use Rattle.value_styles.specs.declared.style.Citation.{Citation}
use Rattle.value_styles.specs.declared.style.Bibliography.{Bibliography}
use Rattle.value_styles.specs.declared.style.IndependentStyle.{IndependentStyle}
use Rattle.value_styles.specs.ElementView.{text_view, options_view, elements_view, macros_view}
use Rattle.value_styles.specs.Style.{TermValue, LocaleValue, LayoutValue, CitationValue, BibliographyValue, StyleValue}

abbrev pub code_view : LocaleCode → List ℕ
code_view c = string_bytes c.0

abbrev pub term_view : LocalizedTerm → TermValue
term_view t = record {
  name = t.name;
  form = t.form;
  single = text_view t.single;
  multiple = text_view t.multiple;
}

abbrev pub locale_view : Locale → LocaleValue
locale_view l = record {
  lang = option_map code_view l.lang;
  terms = map term_view l.terms.items;
  punctuation_in_quote = l.punctuation_in_quote;
}

abbrev pub layout_view : Layout → LayoutValue
layout_view l = record {
  elements = elements_view l.elements.items;
  formatting = l.formatting;
  prefix = text_view l.prefix;
  suffix = text_view l.suffix;
  delimiter = text_view l.delimiter;
}

abbrev pub citation_view : Citation → CitationValue
citation_view c = record {
  layout = layout_view c.layout;
  disambiguate_add_givenname = c.disambiguate_add_givenname;
  givenname_disambiguation_rule = c.givenname_disambiguation_rule;
  disambiguate_add_names = c.disambiguate_add_names;
  disambiguate_add_year_suffix = c.disambiguate_add_year_suffix;
  cite_group_delimiter = text_view c.cite_group_delimiter;
  year_suffix_delimiter = text_view c.year_suffix_delimiter;
  after_collapse_delimiter = text_view c.after_collapse_delimiter;
  collapse = c.collapse;
  near_note_distance = c.near_note_distance;
  name_options = options_view c.name_options;
}

abbrev pub bibliography_view : Bibliography → BibliographyValue
bibliography_view b = record {
  layout = layout_view b.layout;
  hanging_indent = b.hanging_indent;
  second_field_align = b.second_field_align;
  line_spacing = b.line_spacing;
  entry_spacing = b.entry_spacing;
  subsequent_author_substitute = text_view b.subsequent_author_substitute;
  subsequent_author_substitute_rule = b.subsequent_author_substitute_rule;
  name_options = options_view b.name_options;
}

abbrev pub style_view : IndependentStyle → StyleValue
style_view s = record {
  categories = s.info.category.items;
  class = s.settings.class;
  options = options_view s.settings.options;
  default_locale = option_map code_view s.default_locale;
  locale = map locale_view s.locale.items;
  macros = macros_view s.macros.items;
  citation = citation_view s.citation;
  bibliography = option_map bibliography_view s.bibliography;
}
