use Rattle.std.proofs.Common.{◌≡◌, length}
use Rattle.value_styles.proofs.order.count_steps.Given as goal

abbrev pub invariant-loop-place : goal.invariant-loop-place
invariant-loop-place l = length l.counts.items ≡ length l.initial.counts.items
