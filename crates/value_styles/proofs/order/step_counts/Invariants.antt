use Rattle.std.proofs.Common.{◌≡◌, length}
use Rattle.value_styles.proofs.order.step_counts.Given as goal

abbrev pub invariant-loop-i : goal.invariant-loop-i
invariant-loop-i l = length l.counts.items ≡ length l.rows
