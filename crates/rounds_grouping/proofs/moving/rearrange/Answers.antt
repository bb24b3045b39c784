use Rattle.std.proofs.Common.{◌+◌, get_or, refl, subst, sym}
use Rattle.rounds_grouping.proofs.Swaps.{Moving, permuted, start, step, within, finish}
use Rattle.rounds_grouping.proofs.moving.rearrange.Goals as goal

pub loop-i-init : goal.loop-i-init
loop-i-init g c = start c.args.items.now c.args.order.now c.args.standing.now c.args.found_at.now c.requires.standing c.requires.found_at

pub bring-requires : goal.bring-requires
bring-requires g c =
    let old = c.args.items.now in
    let order = c.args.order.now in
    let w = within old order (permuted old order c.requires.permutation) c.loop-i.i (get_or order c.loop-i.i 0) (get_or c.loop-i.found_at (get_or order c.loop-i.i 0) 0) (get_or c.loop-i.standing c.loop-i.i 0)
    c.loop-i.items c.loop-i.standing c.loop-i.found_at c.loop-i.invariant c.loop-i-test.true refl refl refl in
    record { place_found = w.place_found; here = w.here_now; here_standing = w.here; from = w.from_now; from_standing = w.from_standing; other = w.other_found }

pub loop-i-preserved : goal.loop-i-preserved
loop-i-preserved g c =
    let old = c.args.items.now in
    let order = c.args.order.now in
    let i = c.loop-i.i in
    subst (Moving old order (i + 1) c.bring.new.items c.bring.new.standing) (sym c.bring.ensures.found_at)
    (step old order (permuted old order c.requires.permutation) i (get_or order i 0) (get_or c.loop-i.found_at (get_or order i 0) 0) (get_or c.loop-i.standing i 0)
    c.loop-i.items c.bring.new.items c.loop-i.standing c.loop-i.found_at c.bring.new.standing
    c.loop-i.invariant c.loop-i-test.true refl refl refl c.bring.ensures.items c.bring.ensures.standing c.bring.auto.items c.bring.auto.standing)

pub returns : goal.returns
returns g c = finish c.args.items.now c.args.order.now (permuted c.args.items.now c.args.order.now c.requires.permutation) c.loop-i.i c.loop-i.items c.loop-i.standing c.loop-i.found_at c.loop-i.invariant c.loop-i-test.false
