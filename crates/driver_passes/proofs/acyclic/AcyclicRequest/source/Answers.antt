use Rattle.std.proofs.Common.{subst, sym}
use Rattle.value_styles.specs.Ring.{HasNoRing}
use Rattle.driver_lookup.specs.Lookup.{Source}
use Rattle.driver_passes.proofs.acyclic.AcyclicRequest.source.Goals as goal

pub returns-clause-no_ring : goal.returns-clause-no_ring
returns-clause-no_ring g c = subst (λ (s : Source). HasNoRing s.style.macros) (sym c.source.ensures) c.args.self.no_ring
