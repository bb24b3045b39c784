use Rattle.std.proofs.Common.{◌≡◌, map}
use Rattle.rounds_runs.specs.Rounds.{told_by}
use Rattle.csl_driver.proofs.account.told_states.Given as goal

abbrev pub invariant-loop-state : goal.invariant-loop-state
invariant-loop-state l = l.told.items ≡ map told_by l.yielded
