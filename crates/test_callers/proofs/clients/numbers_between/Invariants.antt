use Rattle.std.specs.Prelude.{◌≡◌, ◌+◌, ◌-◌, ◌≤◌}
use Rattle.std.specs.List.{range_with_len}
use Rattle.test_callers.proofs.clients.numbers_between.Given as goal

abbrev pub invariant-loop-number : goal.invariant-loop-number
invariant-loop-number l = (l.numbers.items ≡ range_with_len (l.fn.first + 1) (l.number - (l.fn.first + 1))) × (l.fn.first + 1 ≤ l.number)
