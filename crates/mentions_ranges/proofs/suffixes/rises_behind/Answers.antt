use Rattle.std.proofs.Common.{sym, ◌∙◌}
use Rattle.mentions_ranges.specs.SuffixStretches.{suffixes_rise}
use Rattle.mentions_ranges.proofs.Linked.{linked-past, linked-within}
use Rattle.mentions_ranges.proofs.suffixes.rises_behind.Goals as goal

pub returns-then-next-cites : goal.returns-then-next-cites
returns-then-next-cites c = c.suffixes_rise.ensures ∙ sym (linked-within suffixes_rise c.args.cites.now c.args.k _ _ c.if-next-cites.true)

pub returns-else-next-cites : goal.returns-else-next-cites
returns-else-next-cites c = sym (linked-past suffixes_rise c.args.cites.now c.args.k c.if-next-cites.false)
