use Rattle.std.proofs.Common.{◌<◌, length, arith}
use Rattle.driver_passes.specs.RendersView.{item_view}
use Rattle.driver_positions.specs.FinalSteps.{IsPlacedWithin, led_to}
use Rattle.driver_positions.proofs.FinalPlaces.{all-at}
use Rattle.driver_positions.proofs.FinalFirsts.{stands-more}
use Rattle.driver_positions.proofs.final_order.note_firsts.Goals as goal

pub place_led_to-requires : goal.place_led_to-requires
place_led_to-requires g c =
    all-at (IsPlacedWithin c.args.places.now) item_view c.args.items.now c.loop-k.k c.index-items-k.result c.requires.within c.loop-k-test.true c.index-items-k.is

pub note_first-requires : goal.note_first-requires
note_first-requires g c =
    let there : led_to c.args.places.now (item_view c.index-items-k.result) < length c.args.firsts.now =
    all-at (λ i. led_to c.args.places.now i < length c.args.firsts.now) item_view c.args.items.now c.loop-k.k c.index-items-k.result c.requires.led c.loop-k-test.true c.index-items-k.is in
    let led = c.place_led_to.ensures in
    let counted = c.loop-k.auto.firsts in
    omega (arith, there, led, counted)

pub loop-k-preserved : goal.loop-k-preserved
loop-k-preserved g c =
    stands-more item_view c.args.items.now c.loop-k.k c.index-items-k.result c.loop-k-test.true c.index-items-k.is c.args.r c.args.places.now c.args.firsts.now c.loop-k.firsts c.note_first.new.firsts
    c.place_led_to.result c.loop-k.invariant c.place_led_to.ensures c.note_first.ensures
