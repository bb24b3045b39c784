use Rattle.rounds_grouping.proofs.FinalOrders.{grouped-ordered}
use Rattle.rounds_grouping.proofs.laws.grouped_in_final_order.Goals as goal

pub returns : goal.returns
returns g c = grouped-ordered
