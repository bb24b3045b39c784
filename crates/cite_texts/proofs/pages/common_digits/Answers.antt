-- The second number ends first.
use Rattle.std.proofs.Common.{arith}
use Rattle.cite_texts.proofs.Ranges.{at-end}
use Rattle.cite_texts.proofs.pages.common_digits.Goals as goal

pub returns-else-count-last : goal.returns-else-count-last
returns-else-count-last c = omega (arith, c.loop-count.invariant, at-end c.args.first.now c.args.last.now c.loop-count.count c.if-count-last.false)
