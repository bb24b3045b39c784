use Rattle.std.proofs.Common.{vec_len}
use Rattle.csl_driver.proofs.driver.discard.Given as goal

abbrev pub decreases-loop-request : goal.decreases-loop-request
decreases-loop-request g l = vec_len l.requests
