-- How the cites of requests are arranged: the whole.
use Rattle.std.specs.Prelude.{ℕ, Bool, List, map, zip}
use Rattle.mentions_notes.specs.declared.repeats.Position.{Position}
use Rattle.mentions_blocks.specs.declared.collapsed.CollapsedYear.{CollapsedYear}
use Rattle.mentions_arranging.specs.Collapsing.{collapsed_cites}
use Rattle.mentions_arranging.specs.Positioned.{positioned_cites}
use Rattle.mentions_arranging.specs.Repeating.{final_positions}
use Rattle.mentions_arranging.specs.Requests.{Request}
use Rattle.mentions_arranging.specs.declared.arranged.ArrangedCite.{ArrangedCite}
use Rattle.mentions_arranging.specs.declared.positioned.PositionedCite.{PositionedCite}
use Rattle.mentions_arranging.specs.declared.request.FinalCite.{FinalCite}

module _ {L : Type 0} where
  abbrev pub arranged_cite : PositionedCite L → CollapsedYear → ArrangedCite
  arranged_cite c year = record {
    place = c.placed.place;
    position = c.position;
    is_inner = year.is_inner;
    cut = year.cut;
    delimiter = year.delimiter;
  }

  abbrev pub arranged_by_years : List (PositionedCite L) → List CollapsedYear → List ArrangedCite
  arranged_by_years cites years = map (λ p. arranged_cite p.0 p.1) (zip cites years)

  -- the cites of a request in their final order, with their positions, where entries have these
  -- numbers
  abbrev pub arranged_request :
      List ℕ → Request (FinalCite L) → List Position → List ArrangedCite
  arranged_request numbers r positions =
      let cites = positioned_cites r.cites positions in
      arranged_by_years cites (collapsed_cites r.facts numbers cites)

  -- those of all requests, by an equality of locators
  abbrev pub arranged_cites :
      (L → L → Bool) → List ℕ → List (Request (FinalCite L)) → List (List ArrangedCite)
  arranged_cites eq numbers requests = map (λ p. arranged_request numbers p.0 p.1)
      (zip requests (final_positions eq requests))
