-- The cites of a request after collapsing.
use Rattle.std.specs.Prelude.{ℕ, true, false, Option, None, Some, List, if◌then◌else◌}
use Rattle.value_styles.specs.Style.{CitationValue}
use Rattle.value_styles.specs.declared.style.Collapse.{Collapse}
use Rattle.value_styles.specs.declared.style.Collapse.TheVariants.{CitationNumber, Year, YearSuffix, YearSuffixRanged}
use Rattle.driver_passes.specs.Renders.{ItemRender, CiteRender}
use Rattle.rounds_grouping.specs.NumberRuns.{number_collapsed}
use Rattle.rounds_grouping.specs.Stretches.{after_collapse}
use Rattle.rounds_grouping.specs.YearStretches.{year_collapsed}
use Rattle.driver_passes.specs.ByPlaces.{by_places}
use Rattle.driver_passes.specs.Purposes.{has_no_purpose}

module _ {E P : Type 0} where
  -- what a kind of collapsing makes of the cite at a place
  abbrev pub collapsed_by : Collapse → CitationValue → List (ItemRender E P) → ℕ → ItemRender E P
      → ItemRender E P
  collapsed_by CitationNumber citation cites = number_collapsed (after_collapse citation) cites
  collapsed_by Year citation cites = year_collapsed citation false cites
  collapsed_by YearSuffix citation cites = year_collapsed citation true cites
  collapsed_by YearSuffixRanged citation cites = year_collapsed citation false cites

  abbrev pub collapsed_cites : Option Collapse → CitationValue → List (ItemRender E P)
      → List (ItemRender E P)
  collapsed_cites None citation cites = cites
  collapsed_cites (Some kind) citation cites = by_places (collapsed_by kind citation cites) cites

  -- the cites of a request, collapsed as its style asks for
  abbrev pub collapsed : CiteRender E P → CiteRender E P
  collapsed r = let citation = r.request.style.citation in
      record r { items = collapsed_cites citation.collapse citation r.items }

  -- those of a request of which none has a purpose
  abbrev pub collapsed_finally : CiteRender E P → CiteRender E P
  collapsed_finally c = if has_no_purpose c.items then collapsed c else c
