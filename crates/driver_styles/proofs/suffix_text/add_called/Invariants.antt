use Rattle.std.proofs.Common.{◌≡◌, map, drop}
use Rattle.driver_styles.specs.MacrosOf.{macros_of}
use Rattle.driver_styles.specs.Gathered.{gather_each}
use Rattle.driver_styles.proofs.suffix_text.add_called.Given as goal

abbrev pub invariant-loop-each : goal.invariant-loop-each
invariant-loop-each l =
    gather_each (macros_of l.macros) (map (λ s. s.now) (drop l.each-index l.each-items)) (map (λ s. s.now) l.names.keys) ≡ gather_each (macros_of l.macros) (map (λ s. s.now) l.each-items) (map (λ s. s.now) l.initial.names.keys)
