use Rattle.std.proofs.Common.{◌≡◌, ◌++◌, map, take}
use Rattle.driver_passes.specs.RendersView.{items_view}
use Rattle.driver_positions.specs.FinalSteps.{led_to}
use Rattle.driver_positions.proofs.final_order.push_places.Given as goal

abbrev pub invariant-loop-item : goal.invariant-loop-item
invariant-loop-item g l = l.all.items ≡ l.fn.all.items ++ map (led_to l.places) (items_view (take l.item-index l.items))
