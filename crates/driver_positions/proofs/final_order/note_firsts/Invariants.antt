use Rattle.std.proofs.Common.{◌≡◌, fold, take}
use Rattle.driver_passes.specs.RendersView.{items_view}
use Rattle.driver_positions.specs.FinalSteps.{stands_of, with_first}
use Rattle.driver_positions.proofs.final_order.note_firsts.Given as goal

abbrev pub invariant-loop-k : goal.invariant-loop-k
invariant-loop-k g l = l.firsts ≡ fold with_first l.initial.firsts (stands_of l.r l.places (items_view (take l.k l.items)))
