use Rattle.std.proofs.Common.{refl}
use Rattle.mentions_cited.proofs.Again.{again-all, again-next}
use Rattle.mentions_cited.proofs.handed.again_among.Goals as goal

pub loop-k-preserved : goal.loop-k-preserved
loop-k-preserved c =
    again-next c.args.cites.now c.args.notes.now c.loop-k.k _ _ _ _ c.loop-k-test.true c.requires refl refl c.loop-k.again.keys c.add_if_again.new.again.keys c.loop-k.invariant
    c.in_ok-add_if_again.ensures

pub returns : goal.returns
returns c = again-all c.args.cites.now c.args.notes.now c.loop-k.k c.loop-k.again.keys c.loop-k-test.false c.requires c.loop-k.invariant
