use Rattle.std.proofs.Common.{◌≡◌, map, take}
use Rattle.rounds_names.specs.Classes.{step_by}
use Rattle.rounds_names.proofs.steps.steps_by.Given as goal

abbrev pub invariant-loop-rule : goal.invariant-loop-rule
invariant-loop-rule l = l.found.items ≡ map (step_by (take l.rule-index l.rules) l.group l.greatest) l.group
