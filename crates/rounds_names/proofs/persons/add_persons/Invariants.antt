use Rattle.std.proofs.Common.{◌≡◌, ◌++◌, take}
use Rattle.rounds_names.proofs.persons.add_persons.Given as goal

abbrev pub invariant-loop-person : goal.invariant-loop-person
invariant-loop-person l = l.found.items ≡ l.fn.found.items ++ take l.person-index l.persons
