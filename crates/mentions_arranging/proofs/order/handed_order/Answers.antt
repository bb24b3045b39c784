use Rattle.std.proofs.Common.{◌≡◌, ap, arith, ◌∙◌}
use Rattle.mentions_arranging.specs.Order.{handed_order}
use Rattle.mentions_arranging.proofs.Ordering.{handed-next, handed-once}
use Rattle.mentions_arranging.proofs.order.handed_order.Goals as goal

pub loop-place-preserved : goal.loop-place-preserved
loop-place-preserved c = handed-next c.loop-place.place c.loop-place.order.items c.push.new.self.items c.loop-place.invariant c.in_ok-push.ensures.items

pub returns : goal.returns
returns c =
    let all : c.loop-place.place ≡ c.args.count = omega arith in
    let is : c.loop-place.order.items ≡ handed_order c.args.count = c.loop-place.invariant ∙ ap handed_order all in
    record { order = is; once = handed-once c.args.count c.loop-place.order.items is }
