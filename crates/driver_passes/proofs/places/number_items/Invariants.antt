use Rattle.std.proofs.Common.{◌≡◌}
use Rattle.driver_passes.specs.RequestView.{cites_view}
use Rattle.driver_passes.proofs.Placed.{half_placed}
use Rattle.driver_passes.proofs.places.number_items.Given as goal

abbrev pub invariant-loop-k : goal.invariant-loop-k
invariant-loop-k g l = cites_view l.items ≡ half_placed 0 l.k (cites_view l.initial.items)
