-- Whether a year-suffix text stands in the layouts of a style.
use Rattle.std.specs.Prelude.{◌≡◌, ℕ, zero, suc, List, length, Bool, true, false, ◌||◌, Option, Some, None}
use Rattle.std.specs.Option.{option_map_or}
use Rattle.value_sources.specs.declared.taxonomy.StandardVariable.TheVariants as standard
use Rattle.value_styles.specs.Element.{Name, Target, standard_target, macro_target, Element, text_element, number_element, date_element, names_element, group_element, choose_element, Elements, no_elements, element, Branches, otherwise, branch, Macro}
use Rattle.value_styles.specs.Ring.{body_of, HasNoRing}
use Rattle.value_styles.specs.Style.{StyleValue, BibliographyValue}

-- the year suffix is meant, where `call` says it of the macros that are called
abbrev pub suffix_in_target : (Name → Bool) → Target → Bool
suffix_in_target call (standard_target standard.YearSuffix) = true
suffix_in_target call (macro_target name) = call name
suffix_in_target call _ = false

-- at any depth, in every branch
abbrev mutual
  pub suffix_in : (Name → Bool) → Element → Bool
  suffix_in call (text_element target quotes strip look) = suffix_in_target call target
  suffix_in call (number_element variable look) = false
  suffix_in call (date_element variable look) = false
  suffix_in call (names_element variables substitute options look) = false
  suffix_in call (group_element children delimiter look) = suffix_in_all call children
  suffix_in call (choose_element branches) = suffix_in_branches call branches

  pub suffix_in_all : (Name → Bool) → Elements → Bool
  suffix_in_all call no_elements = false
  suffix_in_all call (element e es) = suffix_in call e || suffix_in_all call es

  pub suffix_in_branches : (Name → Bool) → Branches → Bool
  suffix_in_branches call (otherwise es) = suffix_in_all call es
  suffix_in_branches call (branch conditions rule children bs) = suffix_in_all call children
      || suffix_in_branches call bs

-- where no call counts
abbrev pub no_call : Name → Bool
no_call name = false

abbrev pub suffix_in_body : (Name → Bool) → Option Elements → Bool
suffix_in_body call None = false
suffix_in_body call (Some elements) = suffix_in_all call elements

-- the same of a macro, where macros are followed at most so deep; the bound never matters, as the
-- law below says
abbrev pub suffix_in_macro : List Macro → ℕ → Name → Bool
suffix_in_macro macros zero name = false
suffix_in_macro macros (suc depth) name =
    suffix_in_body (suffix_in_macro macros depth) (body_of name macros)

-- a year-suffix text stands in these elements, through macros too
abbrev pub suffix_stands : List Macro → Elements → Bool
suffix_stands macros es = suffix_in_all (suffix_in_macro macros (length macros)) es

abbrev pub suffix_in_bibliography : List Macro → Option BibliographyValue → Bool
suffix_in_bibliography macros None = false
suffix_in_bibliography macros (Some b) = suffix_stands macros b.layout.elements

-- in either layout of a style
abbrev pub explicit_suffix : StyleValue → Bool
explicit_suffix style = suffix_stands style.macros style.citation.layout.elements
    || suffix_in_bibliography style.macros style.bibliography

-- a call of a macro means the first macro of its name: the text stands in what is called where it
-- stands in that one's children
abbrev pub suffix_called : List Macro → Name → Bool
suffix_called macros name = option_map_or (suffix_stands macros) (body_of name macros) false

-- it is looked for element by element, with that meaning of calls
abbrev pub SuffixesUnfold : Type 0
SuffixesUnfold =
    (macros : List Macro) → HasNoRing macros → (es : Elements)
    → suffix_stands macros es ≡ suffix_in_all (suffix_called macros) es
