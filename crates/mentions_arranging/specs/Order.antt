-- The final order of a request's cites.
use Rattle.std.specs.Prelude.{ℕ, Bool, true, false, ◌||◌, List, Option, Some, None, filter_map, if◌then◌else◌, length, map, option_map, slice_get}
use Rattle.std.specs.List.{range_with_len}
use Rattle.value_styles.specs.declared.style.Collapse.{Collapse}
use Rattle.mentions_blocks.specs.Blocks.{block_order}
use Rattle.mentions_blocks.specs.declared.blocks.GroupedCite.{GroupedCite}
use Rattle.mentions_blocks.specs.declared.blocks.PlacedCite.{PlacedCite}
use Rattle.mentions_arranging.specs.Requests.{Request}
use Rattle.mentions_arranging.specs.declared.request.CiteStyle.{CiteStyle}
use Rattle.mentions_arranging.specs.declared.request.FinalCite.{FinalCite}
use Rattle.mentions_arranging.specs.declared.request.RequestedCite.{RequestedCite}

-- the years of blocks collapse
abbrev pub collapses_years : Option Collapse → Bool
collapses_years (Some Collapse.Year) = true
collapses_years (Some Collapse.YearSuffix) = true
collapses_years (Some Collapse.YearSuffixRanged) = true
collapses_years _ = false

-- a style brings cites with the same names together
abbrev pub is_grouped : CiteStyle → Bool
is_grouped style = style.has_group_delimiter || collapses_years style.collapse

-- where it was handed in, and a block of its own
abbrev pub alone : ℕ → PlacedCite
alone k = record { place = k; block = k }

abbrev pub handed_order : ℕ → List PlacedCite
handed_order count = map alone (range_with_len 0 count)

module _ {L : Type 0} where
  -- a hidden cite is grouped as if it had no names
  abbrev pub grouped_cite : RequestedCite L → GroupedCite
  grouped_cite c = record { names = if c.hidden then None else c.key; apart = c.apart }

  abbrev pub final_order : CiteStyle → List (RequestedCite L) → List PlacedCite
  final_order style cites = if is_grouped style then block_order (map grouped_cite cites)
      else handed_order (length cites)

  abbrev pub with_place : PlacedCite → RequestedCite L → FinalCite L
  with_place p c = record { placed = p; cite = c }

  -- the cite at a place of an order
  abbrev pub final_cite : List (RequestedCite L) → PlacedCite → Option (FinalCite L)
  final_cite cites p = option_map (with_place p) (slice_get cites p.place)

  abbrev pub cites_in_order : List (RequestedCite L) → List PlacedCite → List (FinalCite L)
  cites_in_order cites = filter_map (final_cite cites)

  abbrev pub final_cites : CiteStyle → List (RequestedCite L) → List (FinalCite L)
  final_cites style cites = cites_in_order cites (final_order style cites)

  abbrev pub final_request : Request (RequestedCite L) → Request (FinalCite L)
  final_request r = record { facts = r.facts; cites = final_cites r.facts.style r.cites }
