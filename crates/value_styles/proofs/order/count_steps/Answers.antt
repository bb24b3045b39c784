use Rattle.std.proofs.Common.{length, arith}
use Rattle.value_styles.proofs.Reached.{place_within}
use Rattle.value_styles.proofs.order.count_steps.Goals as goal

pub index-requires : goal.index-requires
index-requires c =
    let l = c.loop-place in
    omega (arith, place_within (length c.args.counts.now.items) c.args.row.now l.place-index c.requires c.loop-place-test.true, l.invariant, l.counts.ok.0)

pub index_mut-requires : goal.index_mut-requires
index_mut-requires c =
    let l = c.loop-place in
    omega (arith, place_within (length c.args.counts.now.items) c.args.row.now l.place-index c.requires c.loop-place-test.true, l.invariant, l.counts.ok.0)
