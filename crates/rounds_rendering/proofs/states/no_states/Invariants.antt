use Rattle.std.proofs.Common.{◌≡◌, None, replicate}
use Rattle.rounds_rendering.proofs.states.no_states.Given as goal

abbrev pub invariant-loop : goal.invariant-loop
invariant-loop l = l.states.items ≡ replicate l.counter None
