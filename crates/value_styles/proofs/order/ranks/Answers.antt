use Rattle.std.proofs.Common.{◌<◌, length, arith}
use Rattle.value_styles.proofs.Rows.{row_within, read_within}
use Rattle.value_styles.proofs.order.ranks.Goals as goal

pub index_mut-requires : goal.index_mut-requires
index_mut-requires c =
    let l = c.loop-at in
    let at : l.at < length l.free.items = omega (arith, c.if-at-len.false, c.len.ensures, l.free.ok.0) in
    let below = read_within (length c.args.rows.now) l.free.items l.at c.index-place.result.now l.invariant.2 at c.index-place.ensures in
    omega (arith, below, l.invariant.1, l.ranks.ok.0)

pub bounds-rows-place : goal.bounds-rows-place
bounds-rows-place c =
    let l = c.loop-at in
    let at : l.at < length l.free.items = omega (arith, c.if-at-len.false, c.len.ensures, l.free.ok.0) in
    read_within (length c.args.rows.now) l.free.items l.at c.index-place.result.now l.invariant.2 at c.index-place.ensures

pub offset_bounds-rows-place : goal.offset_bounds-rows-place
offset_bounds-rows-place c = let within = bounds-rows-place c in omega arith

pub take_away-requires-clause-row : goal.take_away-requires-clause-row
take_away-requires-clause-row c =
    let l = c.loop-at in
    let at : l.at < length l.free.items = omega (arith, c.if-at-len.false, c.len.ensures, l.free.ok.0) in
    let below = read_within (length c.args.rows.now) l.free.items l.at c.index-place.result.now l.invariant.2 at c.index-place.ensures in
    row_within c.args.rows.now c.index-place.result.now _ c.index-rows-place.result _ c.requires below c.index-rows-place.is c.deref-in-loop-at.ensures.value l.invariant.0
