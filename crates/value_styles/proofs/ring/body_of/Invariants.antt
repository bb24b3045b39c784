use Rattle.std.proofs.Common.{◌≡◌, drop}
use Rattle.value_styles.specs.Ring.{body_of}
use Rattle.value_styles.specs.ElementView.{macros_view}
use Rattle.value_styles.proofs.ring.body_of.Given as goal

abbrev pub invariant-loop-each : goal.invariant-loop-each
invariant-loop-each l = body_of l.name (macros_view (drop l.each-index l.macros)) ≡ body_of l.name (macros_view l.macros)
