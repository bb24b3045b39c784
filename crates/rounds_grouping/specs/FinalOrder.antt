-- What a caller may rely on of the cites of a request after grouping, without reading how blocks
-- are made.
use Rattle.std.specs.Prelude.{◌≡◌, ℕ, Bool, true, false, List, Some, length, map, slice_get}
use Rattle.std.specs.List.{range_with_len}
use Rattle.std.specs.List.Sorted.{IsPermutation}
use Rattle.value_trees.specs.declared.elem.Elem.{Elem}
use Rattle.driver_passes.specs.Renders.{ItemRender}
use Rattle.rounds_grouping.specs.Laws.{StandsTogether, bare, places_with}

-- the cites of a request, those after grouping, and whether the style groups cites
pub record HasFinalOrder {E P : Type 0} (groups : Bool)
    (cites grouped : List (ItemRender E P)) : Type 0 where
  -- the final order of cites: places of the request
  pub final_order : List ℕ
  -- each place of the request stands in it once
  pub each_place_once : IsPermutation (range_with_len 0 (length cites)) final_order
  -- but for overrides and indexes, the cites after grouping are those at these places
  pub cites_in_this_order : map (λ c. Some (bare c)) grouped
      ≡ map (λ k. slice_get (map bare cites) k) final_order
  -- the cites of one names element are adjacent in it, in the request's order
  pub equal_names_are_adjacent : groups ≡ true → (names : Elem)
      → StandsTogether final_order (places_with cites names)
  -- a style that groups none leaves all as it was
  pub else_nothing_changes : groups ≡ false → grouped ≡ cites
