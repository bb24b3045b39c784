use Rattle.std.proofs.Common.{◌≡◌, drop}
use Rattle.mentions_groups.specs.Shown.{person_at}
use Rattle.mentions_groups.proofs.shown.person_at.Given as goal

abbrev pub invariant-loop-pair : goal.invariant-loop-pair
invariant-loop-pair l = person_at (drop l.pair-index l.variables) l.variable l.place ≡ person_at l.variables l.variable l.place
