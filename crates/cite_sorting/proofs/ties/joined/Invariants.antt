use Rattle.std.proofs.Common.{◌≡◌}
use Rattle.cite_sorting.specs.Ties.{indexes_in}
use Rattle.cite_sorting.proofs.ties.joined.Given as goal

abbrev pub invariant-loop-group : goal.invariant-loop-group
invariant-loop-group l = l.all.items ≡ indexes_in l.yielded
