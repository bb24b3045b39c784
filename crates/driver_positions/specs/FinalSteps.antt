-- For the code: what the final properties of cites are made from.
use Rattle.std.specs.Prelude.{ℕ, zero, suc, ◌<◌, Bool, List, [], None, Option, Some, length, map, option_map, slice_get, slice_index, slice_index_or, slice_set}
use Rattle.std.specs.List.{enumerate_from}
use Rattle.std.specs.Option.{option_map_or, option_or}
use Rattle.driver_lookup.specs.declared.state.IbidState.{IbidState}
use Rattle.driver_lookup.specs.declared.state.IbidState.TheVariants.{Different}
use Rattle.driver_passes.specs.Positions.{with_last}
use Rattle.driver_passes.specs.Renders.{CiteRender, ItemRender, Place}
use Rattle.driver_positions.specs.FinalProperties.{as_cite, final_position, placed_finally}

module _ {E P : Type 0} where
  -- a cite's place is one of these
  abbrev pub IsPlacedWithin : List ℕ → ItemRender E P → Type 0
  IsPlacedWithin places i = i.properties.certain.initial_idx < length places

  -- what stands at a cite's place
  abbrev pub led_to : List ℕ → ItemRender E P → ℕ
  led_to places i = slice_index places i.properties.certain.initial_idx

  -- a cite with this position and this number
  abbrev pub placed_item : IbidState → ℕ → ItemRender E P → ItemRender E P
  placed_item ibid number i = record i { properties = placed_finally ibid number i.properties }

  -- the cites of a request; none where there is no such request
  abbrev pub items_at : List (CiteRender E P) → ℕ → List (ItemRender E P)
  items_at cites r = option_map_or (λ render. render.items) (slice_get cites r) []

  -- the places of the entries of the cites of the request at r, and where these stand
  abbrev pub stands_of : ℕ → List ℕ → List (ItemRender E P) → List (ℕ × Place)
  stands_of r places items = map (λ p. (led_to places p.1, (r, p.0))) (enumerate_from 0 items)

-- noted for the entry at a place, unless there is one
abbrev pub with_first : List (Option Place) → ℕ × Place → List (Option Place)
with_first firsts p = slice_set firsts p.0 (option_or (slice_index_or firsts p.0 None) (Some p.1))

module _ {E P : Type 0} (eq : E → E → Bool) (payload_eq : P → P → Bool) where
  -- the position of the first of these cites behind others
  abbrev pub first_position : List (ItemRender E P) → List (ItemRender E P) → IbidState
  first_position previous items =
      option_map_or (final_position eq payload_eq previous) (slice_get items 0) Different

  -- the position of a cite at a place among these, of which the first has the given one
  abbrev pub position_in : IbidState → List (ItemRender E P) → ℕ → ItemRender E P → IbidState
  position_in first items zero i = first
  position_in first items (suc k) i =
      with_last eq payload_eq (as_cite i) (option_map as_cite (slice_get items k))

  -- a cite at a place among these, with its position and its number
  abbrev pub set_among : IbidState → List ℕ → List ℕ → List (ItemRender E P) → ℕ → ItemRender E P
      → ItemRender E P
  set_among first places numbers items k i =
      placed_item (position_in first items k i) (slice_index numbers (led_to places i)) i

  -- each of them
  abbrev pub all_set : IbidState → List ℕ → List ℕ → List (ItemRender E P) → List (ItemRender E P)
  all_set first places numbers items =
      map (λ p. set_among first places numbers items p.0 p.1) (enumerate_from 0 items)
