use Rattle.std.proofs.Common.{◌≡◌, take}
use Rattle.std.specs.List.{filter_map, zip}
use Rattle.rounds_names.specs.NameMarks.{mark}
use Rattle.rounds_names.proofs.marks.member_marks.Given as goal

abbrev pub invariant-loop-k : goal.invariant-loop-k
invariant-loop-k l = l.found.items ≡ filter_map (λ p. mark l.group l.steps p.0 p.1) (take l.k (zip l.group l.own_steps))
