-- The members of an ambiguous group, as name marks see them.
use Rattle.std.specs.Prelude.{ℕ, Bool, false, List, [], ◌∷◌, Option, None, Some, if◌then◌else◌, length, map, max}
use Rattle.std.specs.List.{filter_map}
use Rattle.std.specs.Option.{option_map}
use Rattle.value_styles.specs.Style.{CitationValue}
use Rattle.value_sources.specs.declared.names.NameDisambiguationProperties.{NameDisambiguationProperties}
use Rattle.value_styles.specs.declared.style.DisambiguationRule.{DisambiguationRule}
use Rattle.driver_lookup.specs.States.{may_get_names}
use Rattle.driver_lookup.specs.declared.state.DisambiguateState.{DisambiguateState}
use Rattle.driver_passes.specs.Places.{cite_at}
use Rattle.driver_passes.specs.Renders.{CiteRender, ItemRender, Place}
use Rattle.driver_passes.specs.Request.{Request}
use Rattle.rounds_names.specs.Persons.{persons}
use Rattle.rounds_names.specs.declared.named_cite.NamedCite.{NamedCite}

-- the rule by which a style adds given names, if it does
abbrev pub rule_of : CitationValue → Option DisambiguationRule
rule_of c = if c.disambiguate_add_givenname then Some c.givenname_disambiguation_rule else None

-- the forms from which more names are written: those of a name state, else those of the first
-- render; none in another state
abbrev pub start : DisambiguateState → Option NameDisambiguationProperties
    → Option NameDisambiguationProperties
start DisambiguateState.None first = first
start (DisambiguateState.NameDisambiguation forms) first = Some forms
start DisambiguateState.Choose first = None
start (DisambiguateState.YearSuffix suffix) first = None

module _ {E P : Type 0} where
  abbrev pub named_cite : Place → Request E P → ItemRender E P → NamedCite
  named_cite place request item = record {
    place = place;
    persons = persons item.rendered;
    rule = rule_of request.style.citation;
    may_be_named = may_get_names item.properties.speculative.disambiguation;
    start = start item.properties.speculative.disambiguation item.first_name;
  }

  abbrev pub named_cite_at : List (CiteRender E P) → Place → Option NamedCite
  named_cite_at cites place =
      option_map (λ cite. named_cite place cite.0 cite.1) (cite_at cites place)

  abbrev pub named_cites : List (CiteRender E P) → List Place → List NamedCite
  named_cites cites group = filter_map (named_cite_at cites) group

  -- the style of the document's first request adds names
  abbrev pub first_adds_names : List (CiteRender E P) → Bool
  first_adds_names [] = false
  first_adds_names (cite ∷ cites) = cite.request.style.citation.disambiguate_add_names

abbrev pub greatest : List ℕ → ℕ
greatest [] = 0
greatest (n ∷ ns) = max n (greatest ns)

-- how many names may be tried: as many as some member has where names are added, else one
abbrev pub greatest_step : Bool → List NamedCite → ℕ
greatest_step adds_names group = if adds_names
    then greatest (map (λ x. length x.persons) group) else 1
