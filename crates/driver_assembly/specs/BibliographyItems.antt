-- The items of a bibliography, from the first cites of its entries.
use Rattle.std.specs.Prelude.{Bool, List, [], map, None, if◌then◌else◌, is_some, option_map, unwrap_or}
use Rattle.std.specs.List.{filter_map, find, remove, position_or_len}
use Rattle.value_trees.specs.Metas.{child_has_any_meta}
use Rattle.value_trees.specs.Simplify.{simplified}
use Rattle.value_styles.specs.Style.{BibliographyValue}
use Rattle.driver_lookup.specs.Lookup.{Source}
use Rattle.driver_lookup.specs.Properties.{Properties}
use Rattle.driver_passes.specs.Places.{cite_at}
use Rattle.driver_passes.specs.Renders.{CiteRender, ItemRender, Place}
use Rattle.rounds_substitution.specs.Substitution.{Item, substituted}
use Rattle.driver_writers.specs.Tasks.{ItemTaskValue, TaskValue, item_task}
use Rattle.driver_writers.specs.Writing.{Writing}
use Rattle.driver_assembly.specs.ChildOf.{child_of}
use Rattle.driver_assembly.specs.declared.rendered.BibliographyItem.{BibliographyItem}
use Rattle.driver_assembly.specs.declared.rendered.RenderedBibliography.{RenderedBibliography}

-- an item of the bibliography from its tree and its key: where second fields are aligned, its first
-- field, which is the first child that stands for something, stands apart
abbrev pub with_first_field : Bool → Item → BibliographyItem
with_first_field aligned (tree, key) =
    if aligned then record {
      key = key;
      first_field = option_map child_of (find child_has_any_meta tree);
      content = remove tree (position_or_len child_has_any_meta tree);
    }
    else record { key = key; first_field = None; content = tree }

-- the cites at these places
abbrev pub cites_at : {E P : Type 0} → List (CiteRender E P) → List Place → List (ItemRender E P)
cites_at cites places = filter_map (λ p. option_map (λ c. c.1) (cite_at cites p)) places

-- what holds of a cite, without its locator
abbrev pub unlocated : {E P : Type 0} → ItemRender E P → Properties P
unlocated i = record i.properties {
  speculative =
      record i.properties.speculative { locator = None };
}

-- what is asked for where the entry of a cite is written for the bibliography
abbrev pub item_of : {E P : Type 0} → Source → ItemRender E P → ItemTaskValue E P
item_of source i = record { source = source; entry = i.entry; properties = unlocated i }

abbrev pub bibliography_tasks : {E P : Type 0} → Source → List (ItemRender E P)
    → List (TaskValue E P)
bibliography_tasks source firsts = map (λ i. item_task (item_of source i)) firsts

-- the bibliography of a style that has these items
abbrev pub bibliography_with : BibliographyValue → List Item → RenderedBibliography
bibliography_with bibliography items = record {
  hanging_indent = bibliography.hanging_indent;
  second_field_align = bibliography.second_field_align;
  line_spacing = bibliography.line_spacing;
  entry_spacing = bibliography.entry_spacing;
  items = map (with_first_field (is_some bibliography.second_field_align)) items;
}

module _ {E P : Type 0} (writing : Writing E P) where
  -- an item of the bibliography as it is written, and its key
  abbrev pub item_by : ItemTaskValue E P → Item
  item_by t = (simplified (unwrap_or (writing.item t) []), (writing.answers t.entry).key)

  module _ (source : Source) where
    -- the entry of a cite as the bibliography writes it by what holds of the cite, and its key
    abbrev pub written_item : ItemRender E P → Item
    written_item i = item_by (item_of source i)

    -- the bibliography, where these are the first cites of its entries, in its order
    abbrev pub bibliography_of : BibliographyValue → List (ItemRender E P) → RenderedBibliography
    bibliography_of bibliography firsts = bibliography_with bibliography
        (substituted bibliography.subsequent_author_substitute
        bibliography.subsequent_author_substitute_rule
        (map written_item firsts))
