use Rattle.std.proofs.Common.{◌∙◌}
use Rattle.driver_passes.specs.RequestView.{cite_view, entries_view}
use Rattle.driver_entries.proofs.Placing.{items-more}
use Rattle.driver_entries.proofs.table.place_items.Goals as goal

pub loop-item-preserved : goal.loop-item-preserved
loop-item-preserved g c =
    let more = items-more g.T.PartialEq.eq g.met.T.Eq.laws c.args.items.now c.loop-item.item-index c.item-item.result
    c.loop-item-test.true c.item-item.is cite_view (entries_view c.args.entries.now.keys)
    c.loop-item.invariant.added c.loop-item.invariant.placed c.in_ok-place.ensures.added c.in_ok-place.ensures.placed in
    record { added = more.0; placed = c.in_ok-push.ensures.items ∙ more.1 }
