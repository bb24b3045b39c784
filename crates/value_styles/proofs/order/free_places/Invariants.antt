use Rattle.std.proofs.Common.{length}
use Rattle.value_styles.specs.Places.{IsWithin}
use Rattle.value_styles.proofs.order.free_places.Given as goal

abbrev pub invariant-loop-place : goal.invariant-loop-place
invariant-loop-place l = IsWithin (length l.counts) l.free.items
