use Rattle.std.proofs.Common.{◌≡◌, drop}
use Rattle.std.specs.List.{list_any, zip}
use Rattle.rounds_names.specs.Classes.{waits_for_step}
use Rattle.rounds_names.proofs.steps.some_waits.Given as goal

abbrev pub invariant-loop-k : goal.invariant-loop-k
invariant-loop-k l =
    list_any (λ p. waits_for_step l.rule p.0 p.1) (drop l.k (zip l.group l.steps)) ≡ list_any (λ p. waits_for_step l.rule p.0 p.1) (zip l.group l.steps)
