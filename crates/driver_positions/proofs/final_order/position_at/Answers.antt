use Rattle.std.proofs.Common.{arith}
use Rattle.driver_passes.specs.RendersView.{item_view}
use Rattle.driver_positions.proofs.FinalItems.{position-there}
use Rattle.driver_positions.proofs.final_order.position_at.Goals as goal

pub returns-else-k-eq0 : goal.returns-else-k-eq0
returns-else-k-eq0 g c = λ i read.
    position-there g.T.PartialEq.eq g.P.PartialEq.eq item_view c.args.items.now c.args.k c.index-items-k.result c.index-items-k-else-k-eq0.result c.args.first c.position_behind.result i
    c.requires (omega arith) c.index-items-k.is c.index-items-k-else-k-eq0.is c.position_behind.ensures read
