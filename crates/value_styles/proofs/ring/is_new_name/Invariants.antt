use Rattle.std.proofs.Common.{◌≡◌, map, drop}
use Rattle.value_styles.specs.Ring.{has_name}
use Rattle.value_styles.specs.ElementView.{macros_view}
use Rattle.value_styles.proofs.ring.is_new_name.Given as goal

abbrev pub invariant-loop-each : goal.invariant-loop-each
invariant-loop-each l =
    has_name l.name (map (λ m. m.name) (macros_view (drop l.each-index l.each-items))) ≡ has_name l.name (map (λ m. m.name) (macros_view l.each-items))
