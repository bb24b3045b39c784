use Rattle.driver_passes.specs.RendersView.{item_view}
use Rattle.driver_positions.specs.FinalSteps.{IsPlacedWithin}
use Rattle.driver_positions.proofs.FinalPlaces.{all-at}
use Rattle.driver_positions.proofs.final_order.push_places.Goals as goal

pub place_led_to-requires : goal.place_led_to-requires
place_led_to-requires g c =
    all-at (IsPlacedWithin c.args.places.now) item_view c.args.items.now c.loop-item.item-index c.item-item.result c.requires c.loop-item-test.true c.item-item.is
