-- The citation of a request, from its cites as they stand in the end.
use Rattle.std.specs.Prelude.{ℕ, not, List, [], ◌∷◌, map, filter, Option, Some, None}
use Rattle.std.specs.Option.{option_or}
use Rattle.value_trees.specs.Child.{Child, elem, kids_of}
use Rattle.value_styles.specs.Style.{LayoutValue}
use Rattle.value_trees.specs.declared.elem.ElemMeta.TheVariants.{Entry}
use Rattle.driver_lookup.specs.Lookup.{Source}
use Rattle.driver_passes.specs.Renders.{ItemRender, CiteRender}
use Rattle.driver_passes.specs.Request.{source_of}
use Rattle.driver_assembly.specs.Assembly.{Shown, assembled}
use Rattle.driver_assembly.specs.LastTree.{last_task, task_by_purpose, tree_by_purpose}
use Rattle.driver_passes.specs.Purposes.{has_no_purpose}
use Rattle.driver_writers.specs.Tasks.{LastPlace, TaskValue}
use Rattle.driver_writers.specs.Writing.{Writing}

module _ {E P : Type 0} where
  abbrev pub shown : List (ItemRender E P) → List (ItemRender E P)
  shown = filter (λ i. not i.hidden)

  -- what stands before a cite that isn't the first that shows: its override, else the layout's
  -- delimiter
  abbrev pub delimiter_before : LayoutValue → ItemRender E P → Option (List ℕ)
  delimiter_before layout i = option_or i.delimiter_override layout.delimiter

  -- a tree as one element, marked with the cite's place in its request
  abbrev pub marked_cite : ItemRender E P → List Child → List Child
  marked_cite i tree = elem (kids_of tree) None (Some (Entry i.properties.certain.initial_idx)) ∷ []

  -- where a cite stands: the index of its request, and its own in the items of the request
  abbrev pub last_place_of : ℕ → ItemRender E P → LastPlace
  last_place_of r i = Some (r, i.properties.certain.initial_idx)

  -- what is asked for where the r-th citation is written: each cite, also those that aren't shown
  abbrev pub citation_tasks : ℕ → CiteRender E P → List (TaskValue E P)
  citation_tasks r c =
      map (λ i. task_by_purpose (last_task (source_of c.request) (last_place_of r i) i)) c.items

  module _ (writing : Writing E P) (r : ℕ) where
    -- a cite of the r-th request as it is put into its citation
    abbrev pub shown_cite : Source → LayoutValue → ItemRender E P → Shown
    shown_cite source layout i = record {
      delimiter = delimiter_before layout i;
      tree = marked_cite i (tree_by_purpose writing (last_task source (last_place_of r i) i));
    }

    -- the r-th citation; the layout encloses it where no cite has a purpose
    abbrev pub citation_tree : CiteRender E P → List Child
    citation_tree c =
        let layout = c.request.style.citation.layout in
        assembled (has_no_purpose c.items) layout
        (map (shown_cite (source_of c.request) layout) (shown c.items))
