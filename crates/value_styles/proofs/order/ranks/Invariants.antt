use Rattle.std.proofs.Common.{◌≡◌, length}
use Rattle.value_styles.specs.Places.{IsWithin}
use Rattle.value_styles.proofs.order.ranks.Given as goal

abbrev pub invariant-loop-at : goal.invariant-loop-at
invariant-loop-at l =
    (length l.counts.items ≡ length l.rows) × (length l.ranks.items ≡ length l.rows) × IsWithin (length l.rows) l.free.items
