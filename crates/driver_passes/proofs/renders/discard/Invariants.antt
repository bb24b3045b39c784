use Rattle.std.proofs.Common.{vec_len}
use Rattle.driver_passes.proofs.renders.discard.Given as goal

abbrev pub decreases-loop-item : goal.decreases-loop-item
decreases-loop-item g l = vec_len l.items
