-- What a caller may rely on of the blocks of a request's cites, without reading how they are made.
use Rattle.std.specs.Prelude.{◌≡◌, ℕ, ◌+◌, ◌<◌, AllPairs, Bool, true, List, None, Option, Some, filter, filter_map, is_none, is_some, length, map, option_and_then, slice_get, zip}
use Rattle.std.specs.List.{range_with_len}
use Rattle.rounds_grouping.specs.NumberLaws.{override_at}
use Rattle.rounds_grouping.specs.Blocks.{group_delimiter, is_grouped}
use Rattle.rounds_grouping.specs.FinalOrder.{HasFinalOrder}
use Rattle.driver_passes.specs.Renders.{CiteRender, ItemRender}
use Rattle.value_trees.specs.Tree.{find_elem, has_names}
use Rattle.value_trees.specs.declared.elem.Elem.{Elem}

module _ {E P : Type 0} where
  -- the first names element in the tree of the cite at k, if there is one
  abbrev pub names_at : List (ItemRender E P) → ℕ → Option Elem
  names_at cites k = option_and_then (λ c. find_elem has_names c.rendered) (slice_get cites k)

  -- the index that the cite at k has of its block, if it has one
  abbrev pub block_at : List (ItemRender E P) → ℕ → Option ℕ
  block_at cites k = option_and_then (λ c. c.group) (slice_get cites k)

  -- the cite right after the one at k is of its block: both have the same first names element
  pub record NextIsOfBlock (cites : List (ItemRender E P)) (k : ℕ) : Type 0 where
    pub names : Elem
    pub here : names_at cites k ≡ Some names
    pub next : names_at cites (k + 1) ≡ Some names

  -- a cite that begins a block has no override
  abbrev pub begins_block : ItemRender E P → Bool
  begins_block c = is_none c.delimiter_override

  -- the places in the request of the cites that begin blocks, block after block
  abbrev pub block_places : List ℕ → List (ItemRender E P) → List ℕ
  block_places order grouped = map (λ p. p.0) (filter (λ p. begins_block p.1) (zip order grouped))

  -- the indexes of those of them that have one, block after block
  abbrev pub block_indexes : List (ItemRender E P) → List ℕ
  block_indexes grouped = filter_map (λ c. c.group) (filter begins_block grouped)

  -- cites that were at the places of this order in their request stand in blocks
  pub record AreInBlocks (delimiter : Option (List ℕ)) (order : List ℕ)
      (grouped : List (ItemRender E P)) : Type 0 where
    -- the first cite begins a block, and so does each that isn't of the block of the one before it
    pub first_begins : override_at grouped 0 ≡ None
    pub other_begins : (k : ℕ) → ¬ NextIsOfBlock grouped k → override_at grouped (k + 1) ≡ None
    -- the others have the delimiter as their override
    pub same_after_delimiter : (k : ℕ) → NextIsOfBlock grouped k
        → override_at grouped (k + 1) ≡ delimiter
    -- the blocks stand in the order of their first cites in the request
    pub in_order : AllPairs (λ p q. p < q) (block_places order grouped)
    -- a cite has an index exactly where it has names, and the cites of a block have one index
    pub index_for_names : (k : ℕ)
        → is_some (block_at grouped k) ≡ is_some (names_at grouped k)
    pub same_index : (k : ℕ) → NextIsOfBlock grouped k
        → block_at grouped (k + 1) ≡ block_at grouped k
    -- the indexes of blocks are 0, 1, 2 and so on
    pub indexes_count : block_indexes grouped
        ≡ range_with_len 0 (length (block_indexes grouped))

  -- the cites of a request, and the same in their final order
  pub record FormBlocks (cites grouped : CiteRender E P) : Type 0 where
    pub final : HasFinalOrder (is_grouped cites.request.style.citation) cites.items grouped.items
    -- where the style groups cites they stand in blocks
    pub blocks : is_grouped cites.request.style.citation ≡ true
        → AreInBlocks (group_delimiter cites.request.style.citation) final.final_order
        grouped.items
