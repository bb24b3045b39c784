use Rattle.std.proofs.Common.{◌≡◌, ◌+◌, drop}
use Rattle.mentions_names.specs.Forms.{shown}
use Rattle.mentions_names.specs.Persons.{own_forms}
use Rattle.mentions_names.proofs.forms.shown.Given as goal

abbrev pub invariant-loop-i : goal.invariant-loop-i
invariant-loop-i l = shown (own_forms l.names) ≡ l.i + shown (own_forms (drop l.i l.names))
