use Rattle.std.proofs.Common.{◌-◌, arith, ap, get_or}
use Rattle.driver_passes.specs.RendersView.{item_view, items_view, render_view}
use Rattle.driver_positions.proofs.FinalItems.{last-before}
use Rattle.driver_positions.proofs.final_order.last_before.Goals as goal

pub returns-else-r-eq0 : goal.returns-else-r-eq0
returns-else-r-eq0 g c =
    let cites = c.args.cites.now in
    let before = c.args.r - 1 in
    last-before render_view item_view cites c.args.r (get_or cites before c.index-cites-r.result) c.deref.result.now c.last.result c.requires (omega arith)
    (ap (get_or cites before) c.index-cites-r.is) (ap items_view c.deref.ensures.value) c.last.ensures.value
