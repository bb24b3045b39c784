-- A citation that stands for itself.
use Rattle.std.specs.Prelude.{ℕ, true, not, List, map, filter, Option, None, Some, unwrap_or, codes}
use Rattle.value_styles.specs.Style.{LayoutValue}
use Rattle.value_trees.specs.Child.{Child}
use Rattle.value_trees.specs.Tree.{has_content}
use Rattle.driver_lookup.specs.Lookup.{Source}
use Rattle.driver_lookup.specs.NoProperties.{nothing_certain, speculated}
use Rattle.driver_lookup.specs.Properties.{LocatorValue, Properties}
use Rattle.driver_lookup.specs.declared.state.IbidState.{IbidState}
use Rattle.driver_assembly.specs.Assembly.{Shown, assembled}
use Rattle.driver_assembly.specs.LastTree.{tree_by_purpose}
use Rattle.driver_passes.specs.Request.{RequestedCite, Request, source_of}
use Rattle.driver_writers.specs.Tasks.{CiteTaskValue}
use Rattle.driver_writers.specs.Writing.{Writing}

-- what stands between cites: the layout's delimiter, or else a comma and a space
abbrev pub lone_delimiter : LayoutValue → List ℕ
lone_delimiter layout = unwrap_or layout.delimiter (codes ", ")

-- a tree behind this delimiter
abbrev pub behind : List ℕ → List Child → Shown
behind delimiter tree = record { delimiter = Some delimiter; tree = tree }

-- the properties of a cite of which nothing is known but its locator
abbrev pub lone_properties : {P : Type 0} → Option (LocatorValue P) → Properties P
lone_properties locator = record {
  certain = nothing_certain;
  speculative = speculated locator 0 IbidState.Different;
}

-- a cite that has no number and no place of its own
abbrev pub lone_task : {E P : Type 0} → Source → RequestedCite E P → CiteTaskValue E P
lone_task source c = record {
  source = source;
  entry = c.entry;
  properties = lone_properties c.locator;
  purpose = c.purpose;
  verdict = None;
  place = None;
}

module _ {E P : Type 0} (writing : Writing E P) where
  abbrev pub lone_tree : Source → RequestedCite E P → List Child
  lone_tree source c = tree_by_purpose writing (lone_task source c)

  -- the trees of the cites that aren't hidden and have content
  abbrev pub lone_trees : Source → List (RequestedCite E P) → List (List Child)
  lone_trees source cites =
      filter has_content (map (lone_tree source) (filter (λ c. not c.hidden) cites))

  -- these trees between the layout's prefix and suffix, joined by its delimiter, or else by `, `
  abbrev pub standalone : Request E P → List Child
  standalone request =
      let layout = request.style.citation.layout in
      assembled true layout (map (behind (lone_delimiter layout))
      (lone_trees (source_of request) request.cites))
