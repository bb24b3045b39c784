use Rattle.rounds_grouping.proofs.OrderLaws.{ordered, together}
use Rattle.rounds_grouping.proofs.Whole.{final-permuted}
use Rattle.rounds_grouping.proofs.laws.final_order_laws.Goals as goal

pub returns : goal.returns
returns g c = record { once = final-permuted; together = together; ordered = ordered }
