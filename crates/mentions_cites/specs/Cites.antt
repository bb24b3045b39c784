-- The cites of requests in their final order, before they are arranged.
use Rattle.std.specs.Prelude.{ℕ, Bool, false, List, [], None, Option, filter_map, map, option_map, slice_get, slice_index_or, unwrap_or}
use Rattle.std.specs.List.{zip}
use Rattle.driver_lookup.specs.Properties.{Properties}
use Rattle.driver_lookup.specs.declared.means.Means.{Means}
use Rattle.driver_lookup.specs.declared.properties.CertainCiteProperties.{CertainCiteProperties}
use Rattle.driver_lookup.specs.declared.state.DisambiguateState.{DisambiguateState}
use Rattle.driver_lookup.specs.declared.state.IbidState.{IbidState}
use Rattle.mentions_notes.specs.declared.notes.CiteNotes.{CiteNotes}
use Rattle.mentions_groups.specs.declared.state.MentionState.{MentionState}
use Rattle.mentions_tables.specs.Asked.{untold}
use Rattle.mentions_cited.specs.ToldMeans.{means_of}
use Rattle.mentions_arranging.specs.Requests.{Request as Arranged}
use Rattle.mentions_arranging.specs.declared.request.FinalCite.{FinalCite}
use Rattle.driver_passes.specs.Renders.{CiteRender, ItemRender}
use Rattle.driver_passes.specs.Request.{RequestedCite, Request}
use Rattle.mentions_cites.specs.Mentions.{mention_index, mention_of, suffix_number}
use Rattle.mentions_cites.specs.declared.mentions.ToldMention.{ToldMention}

-- what is certain of a cite in a note or in none, at a place of its request
abbrev pub told_certain : Option ℕ → ℕ → CiteNotes → CertainCiteProperties
told_certain note place notes = record {
  note_number = note;
  first_note_number = notes.first_note;
  is_near_note = notes.is_near;
  is_first = notes.is_first;
  initial_idx = place;
}

-- what is known of the mentions of all entries, and of the entries, by their indices
pub record ToldValue : Type 0 where
  pub states : List MentionState
  pub mentions : List ToldMention
  pub suffixes : List (Option ℕ)
  -- the numbers that the entries have
  pub numbers : List ℕ

module _ (told : ToldValue) where
  -- the means of a mention of an entry
  abbrev pub told_means : ℕ → Bool → Means
  told_means entry is_first = means_of
      (unwrap_or (slice_get told.states (mention_index entry is_first)) untold)
      (suffix_number told.suffixes entry)

  -- what is known of a cite of the entry: it has no locator, and repeats no other
  abbrev pub told_properties : {P : Type 0} → Option ℕ → ℕ → ℕ → CiteNotes → Properties P
  told_properties note entry place notes = record {
    certain = told_certain note place notes;
    speculative = record {
      locator = None;
      citation_number = slice_index_or told.numbers entry 0;
      ibid = IbidState.Different;
      disambiguation = DisambiguateState.None;
      means = told_means entry notes.is_first;
      identifier_usage = (mention_of told.mentions entry notes.is_first).usage;
    };
  }

  module _ {E P : Type 0} where
    -- nothing is written of it yet
    abbrev pub told_cite : Option ℕ → ℕ → ℕ → RequestedCite E P → CiteNotes → ItemRender E P
    told_cite note entry place c notes = record {
      rendered = [];
      entry = c.entry;
      properties = told_properties note entry place notes;
      checked_disambiguate = false;
      first_name = None;
      delimiter_override = None;
      group = None;
      locator = c.locator;
      hidden = c.hidden;
      locale = c.locale;
      purpose = c.purpose;
      apart = c.apart;
      verdict = None;
    }

    module _ {L : Type 0} where
      -- the cite of a request that stands at a place of its final order
      abbrev pub told_at : Request E P → List CiteNotes → FinalCite L → Option (ItemRender E P)
      told_at r notes f = option_map
          (λ p. told_cite r.note_number f.cite.entry f.placed.place p.0 p.1)
          (slice_get (zip r.cites notes) f.placed.place)

      -- the cites of a request, of which this is known by those before them, in this order
      abbrev pub told_request : Request E P → List CiteNotes → List (FinalCite L) → CiteRender E P
      told_request r notes cites = record {
        items = filter_map (told_at r notes) cites;
        request = r;
      }

      -- those of all requests
      abbrev pub told_cites : List (Request E P) → List (List CiteNotes)
          → List (Arranged (FinalCite L)) → List (CiteRender E P)
      told_cites requests notes finals =
          map (λ p. told_request p.0.0 p.0.1 p.1.cites) (zip (zip requests notes) finals)
