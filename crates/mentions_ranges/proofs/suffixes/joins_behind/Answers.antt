use Rattle.std.proofs.Common.{sym, ◌∙◌}
use Rattle.mentions_ranges.specs.SuffixStretches.{joins}
use Rattle.mentions_ranges.proofs.Linked.{linked-past, linked-within}
use Rattle.mentions_ranges.proofs.suffixes.joins_behind.Goals as goal

pub returns-then-next-cites : goal.returns-then-next-cites
returns-then-next-cites c = c.joins.ensures ∙ sym (linked-within joins c.args.cites.now c.args.k _ _ c.if-next-cites.true)

pub returns-else-next-cites : goal.returns-else-next-cites
returns-else-next-cites c = sym (linked-past joins c.args.cites.now c.args.k c.if-next-cites.false)
