use Rattle.std.proofs.Common.{◌≡◌, take}
use Rattle.mentions_arranging.specs.Order.{cites_in_order}
use Rattle.mentions_arranging.proofs.order.cites_in_order.Given as goal

abbrev pub invariant-loop-placed : goal.invariant-loop-placed
invariant-loop-placed g l = l.found.items ≡ cites_in_order l.cites (take l.placed-index l.order)
