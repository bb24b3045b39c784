-- What holds of cites in their final order, in which the items of each request stand once they are
-- grouped.
use Rattle.std.specs.Prelude.{◌≡◌, ℕ, Bool, false, List, [], ◌++◌, Option, None, Some, find, flat_map, map, option_and_then, option_map, slice_get, take}
use Rattle.std.specs.List.{enumerate_from, last_or}
use Rattle.std.specs.Option.{option_map_or}
use Rattle.driver_lookup.specs.Properties.{Properties}
use Rattle.driver_lookup.specs.declared.state.IbidState.{IbidState}
use Rattle.driver_passes.specs.Positions.{with_last}
use Rattle.driver_passes.specs.Renders.{CiteRender, ItemRender, Place}
use Rattle.driver_passes.specs.Request.{RequestedCite}

-- properties with this position and this number
abbrev pub placed_finally : {P : Type 0} → IbidState → ℕ → Properties P → Properties P
placed_finally ibid number p =
    record p { speculative = record p.speculative { ibid = ibid; citation_number = number } }

module _ {E P : Type 0} where
  -- the cites of all requests
  abbrev pub items_finally : List (CiteRender E P) → List (ItemRender E P)
  items_finally cites = flat_map (λ r. r.items) cites

  -- the entries that they cite
  abbrev pub cited_finally : List (CiteRender E P) → List E
  cited_finally cites = flat_map (λ r. map (λ i. i.entry) r.items) cites

  -- a rendered cite as a cite, which counts as shown
  abbrev pub as_cite : ItemRender E P → RequestedCite E P
  as_cite i = record {
    entry = i.entry;
    locator = i.locator;
    locale = i.locale;
    hidden = false;
    purpose = i.purpose;
    apart = i.apart;
    place = i.properties.certain.initial_idx;
  }

  -- the cite at a place
  abbrev pub item_at : List (CiteRender E P) → Place → Option (ItemRender E P)
  item_at cites at = option_and_then (λ r. slice_get r.items at.1) (slice_get cites at.0)

  -- the cites of the request directly before the one at r; none where there is no such request
  abbrev pub items_before : List (CiteRender E P) → ℕ → List (ItemRender E P)
  items_before cites r = option_map_or (λ before. before.items) (last_or None (take r cites)) []

module _ {E P : Type 0} (eq : E → E → Bool) where
  -- the first cite of an entry
  abbrev pub first_item : List (CiteRender E P) → E → Option (ItemRender E P)
  first_item cites e = find (λ i. eq e i.entry) (items_finally cites)

  -- by these entries, where the first cite of each stands; none for an entry that no cite cites
  abbrev pub AreFirstItems : List E → List (CiteRender E P) → List (Option Place) → Type 0
  AreFirstItems entries cites firsts = map (option_map (item_at cites)) firsts
      ≡ map (λ e. option_map Some (first_item cites e)) entries

  module _ (payload_eq : P → P → Bool) where
    -- the position of a cite against the last of those before it
    abbrev pub final_position : List (ItemRender E P) → ItemRender E P → IbidState
    final_position before i =
        with_last eq payload_eq (as_cite i) (option_map as_cite (last_or None before))

    module _ (number_of : E → ℕ) where
      -- a cite with its position behind those before it, and the number of its entry
      abbrev pub with_final : List (ItemRender E P) → ItemRender E P → ItemRender E P
      with_final before i = record i {
        properties = placed_finally (final_position before i)
            (number_of i.entry) i.properties;
      }

      -- the cites of a request right behind these
      abbrev pub with_final_items : List (ItemRender E P) → List (ItemRender E P)
          → List (ItemRender E P)
      with_final_items previous items =
          map (λ p. with_final (previous ++ take p.0 items) p.1) (enumerate_from 0 items)

      -- all cites with their final properties: of a cite before, only those of its request and of
      -- the one directly before that count
      abbrev pub with_final_properties : List (CiteRender E P) → List (CiteRender E P)
      with_final_properties cites =
          map (λ p. record p.1 { items = with_final_items (items_before cites p.0) p.1.items })
          (enumerate_from 0 cites)
