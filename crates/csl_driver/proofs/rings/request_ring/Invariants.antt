use Rattle.std.proofs.Common.{take}
use Rattle.driver_passes.specs.RequestView.{requests_view}
use Rattle.csl_driver.specs.Rings.{NoRingIn}
use Rattle.csl_driver.proofs.rings.request_ring.Given as goal

abbrev pub invariant-loop-k : goal.invariant-loop-k
invariant-loop-k g l = NoRingIn (take l.k (requests_view l.requests))
