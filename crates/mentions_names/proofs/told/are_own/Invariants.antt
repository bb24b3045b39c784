use Rattle.std.proofs.Common.{◌≡◌, drop}
use Rattle.mentions_names.specs.Forms.{same_forms}
use Rattle.mentions_names.specs.Persons.{own_forms}
use Rattle.mentions_names.proofs.told.are_own.Given as goal

abbrev pub invariant-loop-k : goal.invariant-loop-k
invariant-loop-k l = same_forms (drop l.k l.forms) (own_forms (drop l.k l.names)) ≡ same_forms l.forms (own_forms l.names)
