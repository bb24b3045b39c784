use Rattle.std.proofs.Common.{◌≡◌, drop}
use Rattle.std.specs.List.{list_any}
use Rattle.rounds_names.specs.Steps.{is_own_step}
use Rattle.rounds_names.proofs.steps.is_step.Given as goal

abbrev pub invariant-loop-own : goal.invariant-loop-own
invariant-loop-own l = list_any (is_own_step l.i) (drop l.own-index l.own_steps) ≡ list_any (is_own_step l.i) l.own_steps
