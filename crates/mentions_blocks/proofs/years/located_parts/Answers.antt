use Rattle.std.proofs.Common.{refl}
use Rattle.mentions_blocks.proofs.Dating.{all-located, located-next}
use Rattle.mentions_blocks.proofs.years.located_parts.Goals as goal

pub loop-cite-preserved : goal.loop-cite-preserved
loop-cite-preserved c =
    located-next c.args.cites.now c.loop-cite.cite-index _ _ c.loop-cite-test.true refl c.loop-cite.located.keys c.add_located.new.located.keys c.loop-cite.invariant
    c.in_ok-add_located.ensures

pub returns : goal.returns
returns c = all-located c.args.cites.now c.loop-cite.cite-index c.loop-cite.located.keys c.loop-cite.invariant c.loop-cite-test.false
