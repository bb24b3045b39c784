-- Which cites repeat the one before them, and which mentions are written for them.
use Rattle.std.specs.Prelude.{ℕ, Bool, ◌&&◌, ◌||◌, List, None, Option, Some, if◌then◌else◌, is_some, length, map, nat_lt, slice_get, zip}
use Rattle.std.specs.Option.{option_and_then}
use Rattle.mentions_notes.specs.Repeats.{positions}
use Rattle.mentions_notes.specs.Requests.{Request as Repeating}
use Rattle.mentions_notes.specs.declared.repeats.PlacedCite.{PlacedCite}
use Rattle.mentions_notes.specs.declared.repeats.Position.{Position}
use Rattle.mentions_arranging.specs.Order.{is_grouped}
use Rattle.mentions_arranging.specs.Requests.{Request}
use Rattle.mentions_arranging.specs.declared.repeating.Repeated.{Repeated}
use Rattle.mentions_arranging.specs.declared.request.FinalCite.{FinalCite}
use Rattle.mentions_arranging.specs.declared.request.RequestFacts.{RequestFacts}
use Rattle.mentions_arranging.specs.declared.request.RequestedCite.{RequestedCite}

-- what cites show counts in a request of two or more, whose style groups or collapses them
abbrev pub is_looked_at : RequestFacts → ℕ → Bool
is_looked_at facts count =
    nat_lt 1 count && (is_grouped facts.style || is_some facts.style.collapse)

module _ {L : Type 0} where
  abbrev pub placed_cite : RequestedCite L → PlacedCite L
  placed_cite c = record { entry = c.entry; locator = c.locator }

  abbrev pub handed_request : Request (RequestedCite L) → Repeating L
  handed_request r = record { note = r.facts.note; cites = map placed_cite r.cites }

  abbrev pub repeating_cite : FinalCite L → PlacedCite L
  repeating_cite c = placed_cite c.cite

  abbrev pub repeating_request : Request (FinalCite L) → Repeating L
  repeating_request r = record { note = r.facts.note; cites = map repeating_cite r.cites }

  -- the mention of its entry that a cite repeats in a position, if it repeats any
  abbrev pub repeated_at : RequestedCite L → Position → Option Repeated
  repeated_at c Position.Different = None
  repeated_at c position =
      Some (record { entry = c.entry; is_first = c.is_first; position = position })

  -- the same of a cite where what it shows counts
  abbrev pub repeated_where : Bool → RequestedCite L × Position → Option Repeated
  repeated_where looked p = if looked then repeated_at p.0 p.1 else None

  -- of the first cite of a request, whose cites have these positions
  abbrev pub first_repeated : Request (RequestedCite L) × List Position → Option Repeated
  first_repeated p = option_and_then (repeated_where (is_looked_at p.0.facts (length p.0.cites)))
      (slice_get (zip p.0.cites p.1) 0)

  -- of each cite of a request in its final order
  abbrev pub all_repeated : Request (FinalCite L) × List Position → List (Option Repeated)
  all_repeated p =
      map (λ c. repeated_where (is_looked_at p.0.facts (length p.0.cites)) (c.0.cite, c.1))
      (zip p.0.cites p.1)

  module _ (eq : L → L → Bool) where
    -- the positions of all cites as they are handed in, by an equality of locators
    abbrev pub handed_positions : List (Request (RequestedCite L)) → List (List Position)
    handed_positions requests = positions eq (map handed_request requests)

    -- and in their final order
    abbrev pub final_positions : List (Request (FinalCite L)) → List (List Position)
    final_positions requests = positions eq (map repeating_request requests)

    -- which mentions the first cites of requests repeat
    abbrev pub firsts_repeated : List (Request (RequestedCite L)) → List (Option Repeated)
    firsts_repeated requests = map first_repeated (zip requests (handed_positions requests))

    -- which ones all cites do, in their final order
    abbrev pub cites_repeated : List (Request (FinalCite L)) → List (List (Option Repeated))
    cites_repeated requests = map all_repeated (zip requests (final_positions requests))
