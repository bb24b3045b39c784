-- The cites of requests, as they are arranged.
use Rattle.std.specs.Prelude.{ℕ, Bool, List, Option, is_some, map, option_map}
use Rattle.std.specs.Borrow.{Bor}
use Rattle.std.specs.List.{list_any, zip}
use Rattle.value_styles.specs.Style.{CitationValue}
use Rattle.driver_lookup.specs.Properties.{LocatorValue}
use Rattle.driver_lookup.specs.PropertiesView.{locator_view}
use Rattle.driver_lookup.specs.declared.locator.SpecificLocator.{SpecificLocator}
use Rattle.mentions_notes.specs.declared.notes.CiteNotes.{CiteNotes}
use Rattle.mentions_arranging.specs.Requests.{Request as Arranged}
use Rattle.mentions_arranging.specs.declared.request.CiteStyle.{CiteStyle}
use Rattle.mentions_arranging.specs.declared.request.RequestFacts.{RequestFacts}
use Rattle.mentions_arranging.specs.declared.request.RequestedCite.{RequestedCite as PlainCite}
use Rattle.driver_entries.specs.Entries.{place}
use Rattle.driver_passes.specs.Request.{RequestedCite, Request}
use Rattle.mentions_cites.specs.Mentions.{entry_suffix, mention_of}
use Rattle.mentions_cites.specs.declared.mentions.ToldMention.{ToldMention}

-- what a style says of how cites are grouped and collapse
abbrev pub cite_style : CitationValue → CiteStyle
cite_style c = record {
  has_group_delimiter = is_some c.cite_group_delimiter;
  collapse = c.collapse;
  has_after_collapse_delimiter = is_some c.after_collapse_delimiter;
}

module _ {E P : Type 0} where
  -- some cite has a purpose
  abbrev pub has_purpose : List (RequestedCite E P) → Bool
  has_purpose = list_any (λ c. is_some c.purpose)

  abbrev pub request_facts : Request E P → RequestFacts
  request_facts r = record {
    style = cite_style r.style.citation;
    note = r.note_number;
    has_purpose = has_purpose r.cites;
  }

  module _ (mentions : List ToldMention) (suffixes : List (Option ℕ)) where
    -- a cite of the entry at an index, of which this is known by those before it: what its mention
    -- shows is that of the first one where no cite before cites the entry, else of the later one
    abbrev pub plain_cite : ℕ → RequestedCite E P → CiteNotes → PlainCite (LocatorValue P)
    plain_cite entry c notes =
        let mention = mention_of mentions entry notes.is_first in
        record {
          entry = entry;
          is_first = notes.is_first;
          locator = c.locator;
          hidden = c.hidden;
          apart = c.apart;
          key = mention.shown.names;
          shown = mention.shown;
          suffix = entry_suffix mentions suffixes entry;
        }

    module _ (eq : E → E → Bool) (listed : List E) where
      -- a request whose cites are of the entries of a bibliography
      abbrev pub plain_request : Request E P → List CiteNotes
          → Arranged (PlainCite (LocatorValue P))
      plain_request r notes = record {
        facts = request_facts r;
        cites = map (λ p. plain_cite (place eq p.0.entry listed) p.0 p.1) (zip r.cites notes);
      }

      -- all requests
      abbrev pub plain_requests : List (Request E P) → List (List CiteNotes)
          → List (Arranged (PlainCite (LocatorValue P)))
      plain_requests requests notes = map (λ p. plain_request p.0 p.1) (zip requests notes)

-- cites with their locators as plain data
module _ {P : Type 0} where
  abbrev pub located : PlainCite (Bor (SpecificLocator P)) → PlainCite (LocatorValue P)
  located c = record {
    entry = c.entry;
    is_first = c.is_first;
    locator = option_map (λ l. locator_view l.now) c.locator;
    hidden = c.hidden;
    apart = c.apart;
    key = c.key;
    shown = c.shown;
    suffix = c.suffix;
  }

  abbrev pub located_request : Arranged (PlainCite (Bor (SpecificLocator P)))
      → Arranged (PlainCite (LocatorValue P))
  located_request r = record { facts = r.facts; cites = map located r.cites }
