-- Cites in their final order, with their positions.
use Rattle.std.specs.Prelude.{List, map, zip}
use Rattle.mentions_notes.specs.declared.repeats.Position.{Position}
use Rattle.mentions_arranging.specs.declared.positioned.PositionedCite.{PositionedCite}
use Rattle.mentions_arranging.specs.declared.request.FinalCite.{FinalCite}

module _ {L : Type 0} where
  abbrev pub positioned_cite : FinalCite L → Position → PositionedCite L
  positioned_cite c position = record { placed = c.placed; position = position; cite = c.cite }

  abbrev pub positioned_cites : List (FinalCite L) → List Position → List (PositionedCite L)
  positioned_cites cites positions = map (λ p. positioned_cite p.0 p.1) (zip cites positions)
