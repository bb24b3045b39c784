use Rattle.std.proofs.Common.{length, arith}
use Rattle.value_styles.proofs.Reached.{place_within}
use Rattle.value_styles.proofs.order.row_leads_up.Goals as goal

pub offset_bounds-ranks-place : goal.offset_bounds-ranks-place
offset_bounds-ranks-place c =
    let within = place_within (length c.args.ranks.now) c.args.row.now c.loop-place.place-index c.requires c.loop-place-test.true in
    omega arith

pub bounds-ranks-place : goal.bounds-ranks-place
bounds-ranks-place c =
    place_within (length c.args.ranks.now) c.args.row.now c.loop-place.place-index c.requires c.loop-place-test.true
