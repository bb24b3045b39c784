use Rattle.std.proofs.Common.{◌≡◌, length}
use Rattle.value_styles.specs.Places.{IsWithin}
use Rattle.value_styles.proofs.order.take_away.Given as goal

abbrev pub invariant-loop-place : goal.invariant-loop-place
invariant-loop-place l = (length l.counts.items ≡ length l.initial.counts.items) × IsWithin (length l.initial.counts.items) l.free.items
