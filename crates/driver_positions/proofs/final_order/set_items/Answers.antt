use Rattle.std.proofs.Common.{◌≡◌, ◌<◌, ap, arith, get_or, length, ◌∙◌}
use Rattle.std.proofs.lemmas.List.{get_or_default}
use Rattle.driver_passes.specs.RendersView.{item_view}
use Rattle.driver_positions.specs.FinalSteps.{placed_item}
use Rattle.driver_positions.proofs.FinalItems.{next-set, within-places}
use Rattle.driver_positions.proofs.final_order.set_items.Goals as goal

pub number_of-number-requires : goal.number_of-number-requires
number_of-number-requires g c =
    let now = c.loop-k.items in
    let k = c.loop-k.k in
    let found = c.index-items-k.result in
    within-places g.T.PartialEq.eq g.P.PartialEq.eq item_view c.args.items.now now k (get_or now k found) c.args.first c.args.places.now c.args.numbers.now
    c.loop-k-test.true (ap (get_or now k) c.index-items-k.is) c.loop-k.invariant c.requires

pub loop-k-preserved : goal.loop-k-preserved
loop-k-preserved g c =
    let now = c.loop-k.items in
    let k = c.loop-k.k in
    let found = c.index-items-k.result in
    let counted : length now ≡ length c.args.items.now = omega arith in
    let within : k < length now = omega arith in
    next-set g.T.PartialEq.eq g.P.PartialEq.eq item_view c.args.items.now now k (get_or now k found) c.args.first c.args.places.now c.args.numbers.now
    c.loop-k-test.true (ap (get_or now k) c.index-items-k.is) c.loop-k.invariant
    counted c.position_at-ibid.result c.number_of-number.result c.set_item.new.item c.position_at-ibid.ensures c.number_of-number.ensures
    (c.set_item.ensures ∙ ap (λ z. placed_item c.position_at-ibid.result c.number_of-number.result (item_view z)) (get_or_default now k c.index-items-k-in-loop-k.result found within))
