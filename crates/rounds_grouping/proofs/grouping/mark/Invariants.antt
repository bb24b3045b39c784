use Rattle.std.proofs.Common.{◌≡◌, Some, take}
use Rattle.driver_passes.specs.RendersView.{items_view}
use Rattle.rounds_grouping.specs.Steps.{all_marked}
use Rattle.rounds_grouping.proofs.grouping.mark.Given as goal

abbrev pub invariant-loop-i : goal.invariant-loop-i
invariant-loop-i g l = items_view l.items ≡ all_marked (Some l.delimiter) (take l.i l.placed) (items_view l.initial.items)
