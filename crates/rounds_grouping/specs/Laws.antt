-- Laws of the final order of cites.
use Rattle.std.specs.Prelude.{◌≡◌, ℕ, List, ◌++◌, None, Some, filter, map, slice_get}
use Rattle.std.specs.List.{enumerate_from}
use Rattle.std.specs.Option.{option_eq}
use Rattle.value_trees.specs.SameElem.{same_elem}
use Rattle.value_trees.specs.Tree.{find_elem, has_names}
use Rattle.value_trees.specs.declared.elem.Elem.{Elem}
use Rattle.driver_passes.specs.Renders.{ItemRender}
use Rattle.rounds_grouping.specs.Blocks.{final_order, with_block}

-- the part stands in the order without gaps
abbrev pub StandsTogether : List ℕ → List ℕ → Type 0
StandsTogether order part = (before : List ℕ) × (after : List ℕ)
    × (order ≡ before ++ (part ++ after))

module _ {E P : Type 0} where
  -- the places of the cites with this as their first names element, in the request's order
  abbrev pub places_with : List (ItemRender E P) → Elem → List ℕ
  places_with cites names = map (λ p. p.0)
      (filter (λ p. option_eq same_elem (Some names) (find_elem has_names p.1.rendered))
      (enumerate_from 0 cites))

  -- a cite but for its override and its index
  abbrev pub bare : ItemRender E P → ItemRender E P
  bare = with_block None None

  -- but for these, the grouped cites are those at the places of the final order
  abbrev pub IsInFinalOrder : List (ItemRender E P) → List (ItemRender E P) → Type 0
  IsInFinalOrder cites grouped = map (λ c. Some (bare c)) grouped
      ≡ map (λ k. slice_get (map bare cites) k) (final_order cites)
