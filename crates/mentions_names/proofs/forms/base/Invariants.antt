use Rattle.std.proofs.Common.{◌≡◌, take}
use Rattle.mentions_names.specs.Forms.{greatest_form}
use Rattle.mentions_names.specs.Persons.{own_forms}
use Rattle.mentions_names.proofs.forms.base.Given as goal

abbrev pub invariant-loop-name : goal.invariant-loop-name
invariant-loop-name l = l.base ≡ greatest_form (own_forms (take l.name-index l.names))
