use Rattle.std.proofs.Common.{◌≡◌, map}
use Rattle.std.specs.Prelude.{option_map}
use Rattle.driver_passes.specs.RendersView.{items_view}
use Rattle.driver_passes.proofs.Halves.{half}
use Rattle.rounds_grouping.specs.NumberRuns.{number_collapsed, shown_number}
use Rattle.rounds_grouping.proofs.RunLemmas.{RisesUpTo}
use Rattle.rounds_grouping.proofs.numbers.collapse_numbers.Given as goal

abbrev pub invariant-loop-k : goal.invariant-loop-k
invariant-loop-k g l = record {
  items : items_view l.items ≡ half (number_collapsed (option_map (λ s. s.now) l.after) (items_view l.initial.items)) l.k (items_view l.initial.items);
  rises : RisesUpTo (map shown_number (items_view l.initial.items)) l.k l.rises;
}
