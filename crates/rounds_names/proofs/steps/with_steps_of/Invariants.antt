use Rattle.std.proofs.Common.{◌≡◌, map}
use Rattle.std.specs.List.{zip}
use Rattle.std.specs.Option.{option_or}
use Rattle.rounds_names.specs.Classes.{AreClasses, first_step}
use Rattle.rounds_names.proofs.steps.with_steps_of.Given as goal

abbrev pub invariant-loop-i : goal.invariant-loop-i
invariant-loop-i l = record {
  classes : AreClasses l.rule l.group l.i l.classes.items;
  steps : l.steps.items ≡ map (λ p. option_or p.1 (first_step l.rule l.group l.i p.0)) (zip l.group l.fn.steps.items);
}
