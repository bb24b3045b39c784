use Rattle.std.proofs.Common.{◌≡◌, filter}
use Rattle.std.specs.List.{list_any, range_with_len}
use Rattle.rounds_names.specs.Steps.{is_own_step}
use Rattle.rounds_names.proofs.steps.group_steps.Given as goal

abbrev pub invariant-loop-k : goal.invariant-loop-k
invariant-loop-k l = l.found.items ≡ filter (λ i. list_any (is_own_step i) l.own_steps) (range_with_len 1 l.k)
