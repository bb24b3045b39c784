-- The items of a bibliography that are written by means of their own.
use Rattle.std.specs.Prelude.{List, None, Option, false, map, option_map}
use Rattle.std.specs.List.{filter_map, zip}
use Rattle.value_styles.specs.Style.{BibliographyValue}
use Rattle.driver_lookup.specs.Lookup.{Source}
use Rattle.driver_lookup.specs.Properties.{Properties}
use Rattle.driver_lookup.specs.declared.state.DisambiguateState.{DisambiguateState}
use Rattle.driver_lookup.specs.declared.state.IbidState.{IbidState}
use Rattle.driver_passes.specs.Places.{cite_at}
use Rattle.driver_passes.specs.Renders.{CiteRender, ItemRender, Place}
use Rattle.mentions_authors.specs.Substitution.{with_substitute}
use Rattle.driver_writers.specs.Tasks.{ItemTaskValue, TaskValue, item_task}
use Rattle.driver_writers.specs.Writing.{Writing}
use Rattle.driver_assembly.specs.BibliographyItems.{bibliography_with, item_by}
use Rattle.driver_assembly.specs.declared.by_means.ItemMeans.{ItemMeans}
use Rattle.driver_assembly.specs.declared.rendered.RenderedBibliography.{RenderedBibliography}

module _ {E P : Type 0} where
  -- what holds of a cite, without its locator, as of one that repeats none, and with these means
  abbrev pub properties_by : ItemRender E P → ItemMeans → Properties P
  properties_by i means = record {
    certain = record i.properties.certain { is_near_note = false; is_first = false };
    speculative = record i.properties.speculative {
      locator = None;
      ibid = IbidState.Different;
      disambiguation = DisambiguateState.None;
      means = record { names = None; choose = means.choose; suffix = means.suffix };
    };
  }

  -- what is asked for where the entry of a cite is written for the bibliography
  abbrev pub task_by : Source → ItemRender E P × ItemMeans → ItemTaskValue E P
  task_by source p =
      record { source = source; entry = p.0.entry; properties = properties_by p.0 p.1 }

  -- the cite at a place, if one stands there, with its means
  abbrev pub cite_with_means : List (CiteRender E P) → Place × ItemMeans
      → Option (ItemRender E P × ItemMeans)
  cite_with_means cites p = option_map (λ c. (c.1, p.1)) (cite_at cites p.0)

  -- the cites at these places, each with the means at the same index
  abbrev pub cites_with_means : List (CiteRender E P) → List Place → List ItemMeans
      → List (ItemRender E P × ItemMeans)
  cites_with_means cites places means = filter_map (cite_with_means cites) (zip places means)

  abbrev pub tasks_by_means : Source → List (ItemRender E P × ItemMeans) → List (TaskValue E P)
  tasks_by_means source firsts = map (λ p. item_task (task_by source p)) firsts

  -- the bibliography, where these are the first cites of its entries, in its order, with their
  -- means
  abbrev pub bibliography_by_means : Writing E P → Source → BibliographyValue
      → List (ItemRender E P × ItemMeans) → RenderedBibliography
  bibliography_by_means writing source bibliography firsts = bibliography_with bibliography
      (with_substitute bibliography.subsequent_author_substitute
      bibliography.subsequent_author_substitute_rule
      (map (λ p. item_by writing (task_by source p)) firsts))
