-- The blocks of a request's cites, and the cites after grouping.
use Rattle.std.specs.Prelude.{ℕ, Bool, List, [], ◌∷◌, ◌&&◌, ◌||◌, Option, None, Some, filter, if◌then◌else◌, is_some, map}
use Rattle.std.specs.List.{enumerate_from, flat_map}
use Rattle.std.specs.Option.{option_or}
use Rattle.value_styles.specs.Style.{CitationValue}
use Rattle.driver_entries.specs.Entries.{distinct, place}
use Rattle.driver_passes.specs.Renders.{ItemRender, CiteRender}
use Rattle.rounds_grouping.specs.BlockKeys.{BlockKey, is_named, key_of, same_key}

-- a request is grouped where its style has a cite group delimiter, or a collapse and a layout
-- delimiter
abbrev pub is_grouped : CitationValue → Bool
is_grouped citation = is_some citation.cite_group_delimiter
    || (is_some citation.collapse && is_some citation.layout.delimiter)

-- what stands between the cites of a block
abbrev pub group_delimiter : CitationValue → Option (List ℕ)
group_delimiter citation = option_or citation.cite_group_delimiter citation.layout.delimiter

module _ {E P : Type 0} where
  -- the keys of the blocks, each at its first cite
  abbrev pub block_keys : List (ItemRender E P) → List BlockKey
  block_keys cites = distinct same_key (map (λ p. key_of p.0 p.1) (enumerate_from 0 cites))

  -- the cites of one key, in their order, each behind its place
  abbrev pub block : List (ItemRender E P) → BlockKey → List (ℕ × ItemRender E P)
  block cites key = filter (λ p. same_key key (key_of p.0 p.1)) (enumerate_from 0 cites)

  -- the index of a block: its place among those with names
  abbrev pub block_index : List (ItemRender E P) → BlockKey → Option ℕ
  block_index cites key = if is_named key
      then Some (place same_key key (filter is_named (block_keys cites)))
      else None

  -- the places of the cites in their final order: block after block
  abbrev pub final_order : List (ItemRender E P) → List ℕ
  final_order cites = map (λ p. p.0) (flat_map (block cites) (block_keys cites))

  -- a cite with this override and this index
  abbrev pub with_block : Option (List ℕ) → Option ℕ → ItemRender E P → ItemRender E P
  with_block delimiter index c = record c { delimiter_override = delimiter; group = index }

  -- the cites of a block with its index, and with the delimiter as the override of each but the
  -- first
  abbrev pub in_block : Option (List ℕ) → Option ℕ → List (ItemRender E P) → List (ItemRender E P)
  in_block delimiter index [] = []
  in_block delimiter index (c ∷ cs) = with_block None index c ∷ map (with_block delimiter index) cs

  abbrev pub grouped_cites : Option (List ℕ) → List (ItemRender E P) → List (ItemRender E P)
  grouped_cites delimiter cites =
      flat_map (λ key. in_block delimiter (block_index cites key)
      (map (λ p. p.1) (block cites key)))
      (block_keys cites)

  -- the cites of a request, in blocks where its style asks for that
  abbrev pub grouped : CiteRender E P → CiteRender E P
  grouped r =
      let citation = r.request.style.citation in
      if is_grouped citation
      then record r { items = grouped_cites (group_delimiter citation) r.items } else r
