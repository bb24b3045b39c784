-- The second list ends first.
use Rattle.std.proofs.Common.{arith}
use Rattle.mentions_authors.proofs.Beginning.{at-end}
use Rattle.mentions_authors.proofs.repeated.equal_at_first.Goals as goal

pub returns-else-n-own : goal.returns-else-n-own
returns-else-n-own g c = omega (arith, c.loop-n.invariant, at-end g.N.PartialEq.eq c.args.before.now c.args.own.now c.loop-n.n c.if-n-own.false)
