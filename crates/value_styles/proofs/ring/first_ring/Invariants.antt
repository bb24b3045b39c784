use Rattle.std.proofs.Common.{ℕ, ◌<◌}
use Rattle.value_styles.specs.Ring.{IsRingAt}
use Rattle.value_styles.specs.ElementView.{macros_view}
use Rattle.value_styles.proofs.ring.first_ring.Given as goal

abbrev pub invariant-loop-i : goal.invariant-loop-i
invariant-loop-i l = (k : ℕ) → k < l.i → IsRingAt (macros_view l.macros) k → ⊥
