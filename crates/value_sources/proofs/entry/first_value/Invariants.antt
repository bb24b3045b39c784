use Rattle.std.proofs.Common.{◌≡◌, drop}
use Rattle.value_sources.specs.Found.{first_value}
use Rattle.value_sources.proofs.entry.first_value.Given as goal

abbrev pub invariant-loop-pair : goal.invariant-loop-pair
invariant-loop-pair g l =
    first_value g.K.PartialEq.eq l.variable (drop l.pair-index l.pairs) ≡ first_value g.K.PartialEq.eq l.variable l.pairs
