use Rattle.std.proofs.Common.{refl}
use Rattle.mentions_arranging.proofs.Ordering.{ordered-next, place-within}
use Rattle.mentions_arranging.proofs.order.cites_in_order.Goals as goal

pub loop-placed-preserved : goal.loop-placed-preserved
loop-placed-preserved g c =
    let cites = c.args.cites.now in
    let order = c.args.order.now in
    let k = c.loop-placed.placed-index in
    let within = c.loop-placed-test.true in
    ordered-next cites order k _ _ within refl c.index-cites-place.result (place-within cites order k _ _ within refl c.requires) c.index-cites-place.is c.loop-placed.found.items c.push.new.self.items
    c.loop-placed.invariant c.in_ok-push.ensures.items
