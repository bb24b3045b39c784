use Rattle.std.proofs.Common.{vec_len}
use Rattle.driver_passes.proofs.renders.Cites.drop.Given as goal

abbrev pub decreases-loop-cites : goal.decreases-loop-cites
decreases-loop-cites g l = vec_len l.by_request
