use Rattle.std.proofs.Common.{get_or, refl}
use Rattle.rounds_grouping.proofs.Placing.{block-more}
use Rattle.rounds_grouping.proofs.blocks.push_block.Goals as goal

pub loop-place-preserved : goal.loop-place-preserved
loop-place-preserved c =
    let places = c.args.places.now in
    let i = c.loop-place.place-index in
    let m = block-more c.args.group places i (get_or places i 0) c.args.order.now.items c.loop-place.order.items c.push.new.self.items c.loop-place.follows
    c.loop-place-test.true refl c.loop-place.invariant.order c.loop-place.invariant.follows c.in_ok-push.ensures.items in
    record { order = m.0; follows = m.1 }
