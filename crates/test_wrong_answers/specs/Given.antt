-- Cites that are given something else, a range of numbers that aren't shown, and names that a style
-- doesn't add.
use Rattle.std.specs.Prelude.{ℕ, true, false, List, [], ◌∷◌, None, Option, Some, codes, if◌then◌else◌}
use Rattle.mentions_arranging.specs.Requests.{Request as Arranged}
use Rattle.mentions_arranging.specs.declared.arranged.ArrangedCite.{ArrangedCite}
use Rattle.mentions_arranging.specs.declared.positioned.PositionedCite.{PositionedCite}
use Rattle.mentions_arranging.specs.declared.request.CiteStyle.{CiteStyle}
use Rattle.mentions_arranging.specs.declared.request.FinalCite.{FinalCite}
use Rattle.mentions_arranging.specs.declared.request.RequestFacts.{RequestFacts}
use Rattle.mentions_arranging.specs.declared.request.RequestedCite.{RequestedCite}
use Rattle.mentions_blocks.specs.declared.blocks.PlacedCite.{PlacedCite}
use Rattle.mentions_blocks.specs.declared.collapsed.YearCut.{YearCut}
use Rattle.mentions_blocks.specs.declared.collapsed.YearDelimiter.{YearDelimiter}
use Rattle.driver_lookup.specs.Properties.{LocatorValue}
use Rattle.driver_lookup.specs.declared.state.DisambiguateState.{DisambiguateState}
use Rattle.driver_lookup.specs.declared.state.IbidState.{IbidState}
use Rattle.mentions_groups.specs.declared.state.MentionState.{MentionState}
use Rattle.mentions_groups.specs.declared.written.Written.{Written}
use Rattle.mentions_notes.specs.declared.notes.CiteNotes.{CiteNotes}
use Rattle.mentions_notes.specs.declared.repeats.Position.{Position}
use Rattle.driver_passes.specs.Renders.{ItemRender}
use Rattle.value_styles.specs.declared.style.Collapse.{Collapse}
use Rattle.mentions_tables.specs.Asked.{is_told}
use Rattle.mentions_tables.specs.declared.subject.Subject.{Subject}
use Rattle.mentions_names.specs.declared.mention.MentionedName.{MentionedName}
use Rattle.mentions_cites.specs.Arranging.{en_dash}
use Rattle.mentions_cites.specs.Mentions.{unshown}
use Rattle.value_sources.specs.declared.names.DisambiguatedNameForm.{DisambiguatedNameForm}
use Rattle.mentions_laws.specs.Cites.{Row}
use Rattle.test_wrong_answers.specs.Samples.{person, sample_cite}
use Rattle.test_wrong_answers.specs.declared.sample.Sample.{Sample}

-- where a cite was handed in, a block of its own
abbrev pub placed : ℕ → PlacedCite
placed n = record { place = n; block = n }

module _ {L : Type 0} where
  -- a cite of the entry of this number, which shows nothing, and may have a locator
  abbrev pub plain_cite : ℕ → Option L → RequestedCite L
  plain_cite n locator = record {
    entry = n;
    is_first = false;
    locator = locator;
    hidden = false;
    apart = None;
    key = None;
    shown = unshown.shown;
    suffix = None;
  }

  abbrev pub final_cite : ℕ → Option L → FinalCite L
  final_cite n locator = record { placed = placed n; cite = plain_cite n locator }

  abbrev pub positioned_cite : ℕ → Option L → PositionedCite L
  positioned_cite n locator = record {
    placed = placed n;
    position = Position.Different;
    cite = plain_cite n locator;
  }

abbrev pub facts : Option Collapse → RequestFacts
facts collapse = record {
  style = record {
    has_group_delimiter = false;
    collapse = collapse;
    has_after_collapse_delimiter = false;
  };
  note = None;
  has_purpose = false;
}

-- a cite that is arranged in no special way
abbrev pub whole_way : ℕ → ArrangedCite
whole_way n = record {
  place = n;
  position = Position.Different;
  is_inner = false;
  cut = YearCut.Whole;
  delimiter = YearDelimiter.Layout;
}

-- ---- the only cite of a request, a later one in no note

abbrev pub only : PositionedCite (LocatorValue ℕ) × ArrangedCite
only = (positioned_cite 0 None, whole_way 0)

abbrev pub only_row : Row ℕ
only_row = record {
  handed = record { facts = facts None; cites = plain_cite 0 None ∷ [] };
  notes = record { is_first = false; first_note = None; is_near = false } ∷ [];
  ordered = record { facts = facts None; cites = positioned_cite 0 None ∷ [] };
  ways = whole_way 0 ∷ [];
}

-- what it is given, and what it might be given
abbrev pub as_said : ItemRender Sample ℕ
as_said = sample_cite 0 1 []

abbrev pub chosen_too : ItemRender Sample ℕ
chosen_too = record as_said {
  properties = record as_said.properties {
    speculative = record as_said.properties.speculative {
      disambiguation = DisambiguateState.Choose;
    };
  };
}

abbrev pub near : ItemRender Sample ℕ
near = record as_said {
  properties = record as_said.properties {
    certain = record as_said.properties.certain { is_near_note = true };
  };
}

abbrev pub in_a_note : ItemRender Sample ℕ
in_a_note = record as_said {
  properties = record as_said.properties {
    certain = record as_said.properties.certain { note_number = Some 7 };
  };
}

abbrev pub repeating : ItemRender Sample ℕ
repeating = record as_said {
  properties = record as_said.properties {
    speculative = record as_said.properties.speculative { ibid = IbidState.Ibid };
  };
}

abbrev pub after_a_dash : ItemRender Sample ℕ
after_a_dash = record as_said { delimiter_override = Some en_dash }

-- ---- entries 1, 2 and 3, which show no number; the cite of 2 has a locator

abbrev pub unnumbered : List (FinalCite ℕ)
unnumbered = final_cite 0 None ∷ final_cite 1 (Some 5) ∷ final_cite 2 None ∷ []

abbrev pub unnumbered_cites : List (PositionedCite ℕ)
unnumbered_cites =
    positioned_cite 0 None ∷ positioned_cite 1 (Some 5) ∷ positioned_cite 2 None ∷ []

abbrev pub none_repeats : List Position
none_repeats = Position.Different ∷ Position.Different ∷ Position.Different ∷ []

-- as a range that hides 2
abbrev pub as_a_range : List ArrangedCite
as_a_range = whole_way 0
    ∷ record (whole_way 1) { is_inner = true }
    ∷ record (whole_way 2) { delimiter = YearDelimiter.Dash } ∷ []

-- ---- Doe, and another after et al., in a style that adds no names, but suffixes

abbrev pub names : ℕ → List MentionedName
names m = record { person = person (codes "Doe"); own = DisambiguatedNameForm.Short }
    ∷ record { person = person (m ∷ []); own = DisambiguatedNameForm.Count } ∷ []

-- all mentions read alike, unless both names are shown
abbrev pub write : ℕ → MentionState → Written
write m state = record {
  text = if is_told state then m ∷ [] else 1 ∷ [];
  names = names m;
  tested = false;
}

abbrev pub subject : ℕ → ℕ → Subject ℕ
subject m entry = record {
  mention = m;
  entry = entry;
  is_first = true;
  occurs = true;
  adds_names = false;
  rule = None;
  adds_suffix = true;
}

abbrev pub subjects : List (Subject ℕ)
subjects = subject 65 0 ∷ subject 66 1 ∷ []

-- both names are shown all the same
abbrev pub both_names : MentionState
both_names = record {
  names = Some (record { forms = DisambiguatedNameForm.Short ∷ DisambiguatedNameForm.Short ∷ [] });
  chosen = false;
}
