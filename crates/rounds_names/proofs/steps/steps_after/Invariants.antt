use Rattle.std.proofs.Common.{◌≡◌, map, take}
use Rattle.std.specs.List.{zip}
use Rattle.rounds_names.specs.Classes.{is_alone, step_after}
use Rattle.rounds_names.proofs.steps.steps_after.Given as goal

abbrev pub invariant-loop-k : goal.invariant-loop-k
invariant-loop-k l =
    l.found.items ≡ map (λ p. step_after l.rule l.i p.0 p.1 (is_alone l.rule l.group l.i p.0)) (take l.k (zip l.group l.steps))
