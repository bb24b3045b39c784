use Rattle.std.proofs.Common.{◌≡◌, map}
use Rattle.std.specs.Prelude.{None}
use Rattle.value_styles.specs.StyleView.{citation_view}
use Rattle.driver_passes.specs.RendersView.{items_view}
use Rattle.driver_passes.proofs.Halves.{half}
use Rattle.rounds_grouping.specs.YearStretches.{group_at, year_collapsed}
use Rattle.rounds_grouping.proofs.StretchLemmas.{was_later_at}
use Rattle.list_lemmas.proofs.Wholes.{before}
use Rattle.rounds_grouping.proofs.years.collapse_years.Given as goal

abbrev pub invariant-loop-k : goal.invariant-loop-k
invariant-loop-k g l = record {
  items : items_view l.items ≡ half (year_collapsed (citation_view l.citation) l.to_suffixes (items_view l.initial.items)) l.k (items_view l.initial.items);
  before : l.before ≡ before (group_at (map (λ c. c.group) (items_view l.initial.items))) None l.k;
  was_later : l.was_later ≡ was_later_at (map (λ c. c.group) (items_view l.initial.items)) l.k;
}
