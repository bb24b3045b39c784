use Rattle.std.proofs.Common.{◌≡◌}
use Rattle.driver_passes.specs.RendersView.{items_view}
use Rattle.driver_passes.proofs.Halves.{half}
use Rattle.driver_positions.specs.FinalSteps.{set_among}
use Rattle.driver_positions.proofs.final_order.set_items.Given as goal

abbrev pub invariant-loop-k : goal.invariant-loop-k
invariant-loop-k g l =
    items_view l.items ≡ half (set_among g.T.PartialEq.eq g.P.PartialEq.eq l.first l.places l.numbers (items_view l.initial.items)) l.k (items_view l.initial.items)
