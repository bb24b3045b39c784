-- Requests with their cites in the final order, as lists.
use Rattle.std.specs.Prelude.{ℕ, List, Option, map}
use Rattle.mentions_notes.specs.declared.repeats.PlacedCite.{PlacedCite}
use Rattle.mentions_notes.specs.declared.repeats.PlacedRequest.{PlacedRequest}

pub record Request (L : Type 0) : Type 0 where
  -- the number of its note, if it stands in one
  pub note : Option ℕ
  pub cites : List (PlacedCite L)

module _ {L : Type 0} where
  abbrev pub request_view : PlacedRequest L → Request L
  request_view r = record { note = r.note; cites = r.cites.items }

  abbrev pub requests_view : List (PlacedRequest L) → List (Request L)
  requests_view = map request_view
