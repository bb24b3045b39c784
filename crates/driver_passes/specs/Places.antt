-- The places of cites in a document.
use Rattle.std.specs.Prelude.{◌≢◌, List, AllPairs, IsSome, Option, slice_get}
use Rattle.std.specs.Option.{option_and_then, option_map}
use Rattle.driver_passes.specs.Renders.{CiteRender, ItemRender, Place}
use Rattle.driver_passes.specs.Request.{Request}

module _ {E P : Type 0} where
  -- the cite at a place, with its request, if there is one
  abbrev pub cite_at : List (CiteRender E P) → Place → Option (Request E P × ItemRender E P)
  cite_at cites place =
      option_and_then (λ cite.
      option_map (λ item. (cite.request, item)) (slice_get cite.items place.1))
      (slice_get cites place.0)

  -- a cite stands at the place
  abbrev pub IsPlace : List (CiteRender E P) → Place → Type 0
  IsPlace cites place = IsSome (cite_at cites place)

-- no place stands twice
abbrev pub AreDistinct : List Place → Type 0
AreDistinct places = AllPairs (λ a b. a ≢ b) places
