-- For the code: cites whose entries are named by their places in a table.
use Rattle.std.specs.Prelude.{ℕ, List, Option, length, map, slice_get, unwrap_or}
use Rattle.std.specs.List.{zip}
use Rattle.driver_entries.specs.Listed.{Listed}
use Rattle.driver_lookup.specs.Properties.{LocatorValue}
use Rattle.mentions_notes.specs.declared.notes.CiteNotes.{CiteNotes}
use Rattle.mentions_arranging.specs.Requests.{Request as Arranged}
use Rattle.mentions_arranging.specs.declared.request.RequestedCite.{RequestedCite as PlainCite}
use Rattle.driver_passes.specs.Request.{RequestedCite, Request}
use Rattle.mentions_cites.specs.Requests.{plain_cite, request_facts}
use Rattle.mentions_cites.specs.declared.mentions.ToldMention.{ToldMention}

-- the index in a listing of the entry at a place, behind all where it isn't listed
abbrev pub index_at : Listed → ℕ → ℕ
index_at l p = unwrap_or (slice_get l.numbers p) (length l.order)

module _ {E P : Type 0} (mentions : List ToldMention) (suffixes : List (Option ℕ))
    (l : Listed) where
  -- the cites of a request, whose entries are at these places
  abbrev pub plain_cites_at : List (RequestedCite E P) → List ℕ → List CiteNotes
      → List (PlainCite (LocatorValue P))
  plain_cites_at cites places notes =
      map (λ p. plain_cite mentions suffixes (index_at l p.0.1) p.0.0 p.1)
      (zip (zip cites places) notes)

  abbrev pub plain_request_at : Request E P → List ℕ → List CiteNotes
      → Arranged (PlainCite (LocatorValue P))
  plain_request_at r places notes = record {
    facts = request_facts r;
    cites = plain_cites_at r.cites places notes;
  }

  -- all requests
  abbrev pub plain_requests_at : List (Request E P) → List (List ℕ) → List (List CiteNotes)
      → List (Arranged (PlainCite (LocatorValue P)))
  plain_requests_at requests places notes =
      map (λ p. plain_request_at p.0.0 p.0.1 p.1) (zip (zip requests places) notes)
