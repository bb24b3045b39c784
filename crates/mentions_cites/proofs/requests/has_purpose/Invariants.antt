use Rattle.std.proofs.Common.{◌≡◌, drop}
use Rattle.driver_passes.specs.RequestView.{cites_view}
use Rattle.mentions_cites.specs.Requests.{has_purpose}
use Rattle.mentions_cites.proofs.requests.has_purpose.Given as goal

abbrev pub invariant-loop-item : goal.invariant-loop-item
invariant-loop-item g l = has_purpose (cites_view l.items) ≡ has_purpose (cites_view (drop l.item-index l.items))
