-- The second list ends first.
use Rattle.std.proofs.Common.{arith}
use Rattle.rounds_substitution.proofs.Leading.{at_end}
use Rattle.rounds_substitution.proofs.changes.prefix_in_common.Goals as goal

pub returns-else-n-own : goal.returns-else-n-own
returns-else-n-own c = omega (arith, c.loop-n.invariant, at_end c.args.kept.now c.args.own.now c.loop-n.n c.if-n-own.false)
