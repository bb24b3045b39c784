use Rattle.std.proofs.Common.{◌≡◌}
use Rattle.mentions_arranging.specs.Order.{handed_order}
use Rattle.mentions_arranging.proofs.order.handed_order.Given as goal

abbrev pub invariant-loop-place : goal.invariant-loop-place
invariant-loop-place l = l.order.items ≡ handed_order l.place
