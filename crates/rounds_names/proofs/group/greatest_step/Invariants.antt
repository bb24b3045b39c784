use Rattle.std.proofs.Common.{◌≡◌, drop, length, map, max}
use Rattle.rounds_names.specs.NamedCites.{greatest}
use Rattle.rounds_names.proofs.group.greatest_step.Given as goal

abbrev pub invariant-loop-member : goal.invariant-loop-member
invariant-loop-member l =
    max l.greatest (greatest (map (λ x. length x.persons) (drop l.member-index l.group))) ≡ greatest (map (λ x. length x.persons) l.group)
