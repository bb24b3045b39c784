use Rattle.std.proofs.Common.{◌≡◌, false, replicate}
use Rattle.rounds_rendering.proofs.counting.none_marked.Given as goal

abbrev pub invariant-loop : goal.invariant-loop
invariant-loop l = l.marked.items ≡ replicate l.counter false
