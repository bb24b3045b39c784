-- The two mentions of each entry of the bibliography, by its home: the first one reads as its first
-- cite, the later one as a cite that names it again.
use Rattle.std.specs.Prelude.{ℕ, ◌+◌, Bool, true, false, not, ◌&&◌, ◌||◌, List, [], ◌∷◌, None, Option, Some, flat_map, if◌then◌else◌}
use Rattle.std.specs.List.{enumerate_from}
use Rattle.driver_lookup.specs.NoProperties.{speculated}
use Rattle.driver_lookup.specs.Properties.{Properties}
use Rattle.driver_lookup.specs.declared.properties.CertainCiteProperties.{CertainCiteProperties}
use Rattle.driver_lookup.specs.declared.state.IbidState.{IbidState}
use Rattle.driver_passes.specs.Class.{is_note}
use Rattle.driver_passes.specs.Request.{Request, source_of}
use Rattle.value_styles.specs.Style.{CitationValue}
use Rattle.value_styles.specs.declared.style.DisambiguationRule.{DisambiguationRule}
use Rattle.mentions_tables.specs.declared.subject.Subject.{Subject}
use Rattle.driver_writers.specs.Tasks.{CiteTaskValue}
use Rattle.mentions_cited.specs.Handed.{is_cited_again}
use Rattle.mentions_cited.specs.Homes.{HomeValue, homes_of}

-- the rule by which a style adds given names, if it does
abbrev pub given_name_rule : CitationValue → Option DisambiguationRule
given_name_rule c =
    if c.disambiguate_add_givenname then Some c.givenname_disambiguation_rule else None

module _ {E P : Type 0} where
  -- what is certain of a mention: in notes, the later one is near to another
  abbrev pub certain_properties : HomeValue E P → Bool → CertainCiteProperties
  certain_properties home is_first = record {
    note_number = home.request.note_number;
    first_note_number = home.notes.first_note;
    is_near_note = not is_first && is_note home.request.style.class;
    is_first = is_first;
    initial_idx = home.place;
  }

  -- it has no locator, and repeats no cite
  abbrev pub mention_properties : ℕ → HomeValue E P → Bool → Properties P
  mention_properties number home is_first = record {
    certain = certain_properties home is_first;
    speculative = speculated None number IbidState.Different;
  }

  -- those of the mentions of entries with these homes, numbered from the offset: for each the
  -- first mention's, then the later one's
  abbrev pub all_properties : ℕ → List (HomeValue E P) → List (Properties P)
  all_properties offset homes = flat_map
      (λ p. mention_properties p.0 p.1 true ∷ mention_properties p.0 p.1 false ∷ [])
      (enumerate_from offset homes)

  -- a mention of the entry at an index, as a cite in the style of its home
  abbrev pub mention_task : ℕ → HomeValue E P → Bool → CiteTaskValue E P
  mention_task number home is_first = record {
    source = source_of home.request;
    entry = home.entry;
    properties = mention_properties number home is_first;
    purpose = None;
    verdict = None;
    place = None;
  }

  -- and with what that style may do; the later one occurs where the entry is cited again
  abbrev pub mention : ℕ → Bool → ℕ → HomeValue E P → Bool → Subject (CiteTaskValue E P)
  mention offset again index home is_first = record {
    mention = mention_task (offset + index) home is_first;
    entry = index;
    is_first = is_first;
    occurs = is_first || again;
    adds_names = home.request.style.citation.disambiguate_add_names;
    rule = given_name_rule home.request.style.citation;
    adds_suffix = home.request.style.citation.disambiguate_add_year_suffix;
  }

  -- those of entries with these homes
  abbrev pub mentions_at : ℕ → (ℕ → Bool) → List (HomeValue E P)
      → List (Subject (CiteTaskValue E P))
  mentions_at offset again homes = flat_map
      (λ p. mention offset (again p.0) p.0 p.1 true ∷ mention offset (again p.0) p.0 p.1 false ∷ [])
      (enumerate_from 0 homes)

-- those of all entries of the bibliography
abbrev pub mentions_of : {E P : Type 0} → (E → E → Bool) → ℕ → List E → List (Request E P)
    → List (Subject (CiteTaskValue E P))
mentions_of eq offset listed requests =
    mentions_at offset (is_cited_again eq listed requests) (homes_of eq listed requests)
