use Rattle.std.proofs.Common.{◌≡◌, drop}
use Rattle.driver_passes.specs.Purposes.{has_no_purpose}
use Rattle.driver_passes.specs.RendersView.{items_view}
use Rattle.driver_passes.proofs.purposes.has_no_purpose.Given as goal

abbrev pub invariant-loop-item : goal.invariant-loop-item
invariant-loop-item g l = has_no_purpose (items_view l.items) ≡ has_no_purpose (items_view (drop l.item-index l.items))
