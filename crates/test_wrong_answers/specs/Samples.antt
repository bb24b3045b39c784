-- Small requests and cites, on which answers are tried.
use Rattle.std.specs.Prelude.{ℕ, true, false, List, [], ◌∷◌, None, Some, codes}
use Rattle.value_trees.specs.Child.{Child, elem, kid, no_kids, text}
use Rattle.value_styles.specs.Element.{no_elements}
use Rattle.value_sources.specs.Formatting.{normal, nothing_asked}
use Rattle.value_styles.specs.PlainLook.{no_options}
use Rattle.value_styles.specs.Style.{StyleValue}
use Rattle.value_trees.specs.declared.elem.ElemMeta.{ElemMeta}
use Rattle.value_sources.specs.declared.entry.Person.{Person}
use Rattle.value_styles.specs.declared.style.Collapse.{Collapse}
use Rattle.value_styles.specs.declared.style.DisambiguationRule.{DisambiguationRule}
use Rattle.value_styles.specs.declared.style.StyleClass.{StyleClass}
use Rattle.value_sources.specs.declared.taxonomy.NameVariable.{NameVariable}
use Rattle.driver_lookup.specs.declared.state.DisambiguateState.{DisambiguateState}
use Rattle.driver_lookup.specs.Means.{no_means}
use Rattle.driver_lookup.specs.declared.state.IbidState.{IbidState}
use Rattle.driver_lookup.specs.declared.state.IdentifierUsage.{IdentifierUsage}
use Rattle.driver_passes.specs.Renders.{CiteRender, ItemRender}
use Rattle.test_wrong_answers.specs.declared.sample.Sample.{Sample}

-- the entry of this number
abbrev pub entry : ℕ → Sample
entry n = record { number = n }

-- a style that groups cites, collapses numbers, adds names and adds suffixes
abbrev pub style : StyleValue
style = record {
  categories = [];
  class = StyleClass.InText;
  options = no_options;
  default_locale = None;
  locale = [];
  macros = [];
  citation = record {
    layout = record {
      elements = no_elements;
      formatting = nothing_asked;
      prefix = None;
      suffix = None;
      delimiter = Some (codes "; ");
    };
    disambiguate_add_givenname = false;
    givenname_disambiguation_rule = DisambiguationRule.ByCite;
    disambiguate_add_names = true;
    disambiguate_add_year_suffix = true;
    cite_group_delimiter = Some (codes ", ");
    year_suffix_delimiter = None;
    after_collapse_delimiter = None;
    collapse = Some Collapse.CitationNumber;
    near_note_distance = 0;
    name_options = no_options;
  };
  bibliography = None;
}

-- these cites of one request
abbrev pub request_of : List (ItemRender Sample ℕ) → CiteRender Sample ℕ
request_of cites = record {
  items = cites;
  request = record { cites = []; style = style; locale = None; locales = []; note_number = None };
}

-- a cite of an entry, with this number, that was rendered so
abbrev pub sample_cite : ℕ → ℕ → List Child → ItemRender Sample ℕ
sample_cite n number tree = record {
  rendered = tree;
  entry = entry n;
  properties = record {
    certain = record {
      note_number = None;
      first_note_number = None;
      is_near_note = false;
      is_first = false;
      initial_idx = 0;
    };
    speculative = record {
      locator = None;
      citation_number = number;
      ibid = IbidState.Different;
      disambiguation = DisambiguateState.None;
      means = no_means;
      identifier_usage = IdentifierUsage.None;
    };
  };
  checked_disambiguate = false;
  first_name = None;
  delimiter_override = None;
  group = None;
  locator = None;
  hidden = false;
  locale = None;
  purpose = None;
  apart = None;
  verdict = None;
}

abbrev pub words : List ℕ → Child
words bytes = text (record { text = bytes; formatting = normal })

abbrev pub person : List ℕ → Person
person family = record { name = family; given_name = None }

-- an element for these authors, in which this text stands
abbrev pub by_authors : List Person → List ℕ → Child
by_authors authors shown =
    elem (kid (words shown) no_kids) None
    (Some (ElemMeta.Names ((authors, NameVariable.Author) ∷ [])))

-- a year, as an element for a date
abbrev pub in_year : List ℕ → Child
in_year shown = elem (kid (words shown) no_kids) None (Some ElemMeta.Date)

-- an element for a citation number
abbrev pub numbered_element : List ℕ → Child
numbered_element shown = elem (kid (words shown) no_kids) None (Some ElemMeta.CitationNumber)
