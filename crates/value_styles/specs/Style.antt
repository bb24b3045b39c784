-- Locales and styles as plain data.
use Rattle.std.specs.Prelude.{ℕ, ℤ, List, Bool, Option}
use Rattle.std.specs.declared.num.NonZeroI16.{NonZeroI16}
use Rattle.value_sources.specs.declared.taxonomy.Term.{Term}
use Rattle.value_sources.specs.declared.taxonomy.TermForm.{TermForm}
use Rattle.value_sources.specs.declared.formatting.StyleFormatting.{StyleFormatting}
use Rattle.value_styles.specs.declared.style.StyleCategory.{StyleCategory}
use Rattle.value_styles.specs.declared.style.StyleClass.{StyleClass}
use Rattle.value_styles.specs.declared.style.DisambiguationRule.{DisambiguationRule}
use Rattle.value_styles.specs.declared.style.Collapse.{Collapse}
use Rattle.value_styles.specs.declared.style.SecondFieldAlign.{SecondFieldAlign}
use Rattle.value_styles.specs.declared.style.SubsequentAuthorSubstituteRule.{SubsequentAuthorSubstituteRule}
use Rattle.value_styles.specs.Element.{NameOptions, Elements, Macro}

-- a term's words in one form
pub record TermValue : Type 0 where
  pub name : Term
  pub form : TermForm
  pub single : Option (List ℕ)
  pub multiple : Option (List ℕ)

pub record LocaleValue : Type 0 where
  pub lang : Option (List ℕ)
  pub terms : List TermValue
  pub punctuation_in_quote : Option Bool

pub record LayoutValue : Type 0 where
  pub elements : Elements
  pub formatting : StyleFormatting
  pub prefix : Option (List ℕ)
  pub suffix : Option (List ℕ)
  pub delimiter : Option (List ℕ)

pub record CitationValue : Type 0 where
  pub layout : LayoutValue
  pub disambiguate_add_givenname : Bool
  pub givenname_disambiguation_rule : DisambiguationRule
  pub disambiguate_add_names : Bool
  pub disambiguate_add_year_suffix : Bool
  pub cite_group_delimiter : Option (List ℕ)
  pub year_suffix_delimiter : Option (List ℕ)
  pub after_collapse_delimiter : Option (List ℕ)
  pub collapse : Option Collapse
  pub near_note_distance : ℕ
  pub name_options : NameOptions

pub record BibliographyValue : Type 0 where
  pub layout : LayoutValue
  pub hanging_indent : Bool
  pub second_field_align : Option SecondFieldAlign
  pub line_spacing : NonZeroI16
  pub entry_spacing : ℤ
  pub subsequent_author_substitute : Option (List ℕ)
  pub subsequent_author_substitute_rule : SubsequentAuthorSubstituteRule
  pub name_options : NameOptions

pub record StyleValue : Type 0 where
  pub categories : List StyleCategory
  pub class : StyleClass
  pub options : NameOptions
  pub default_locale : Option (List ℕ)
  pub locale : List LocaleValue
  pub macros : List Macro
  pub citation : CitationValue
  pub bibliography : Option BibliographyValue
