use Rattle.std.proofs.Common.{◌≡◌, take}
use Rattle.std.specs.List.{flat_map}
use Rattle.mentions_names.specs.Gathered.{forms_at}
use Rattle.mentions_names.proofs.gathered.needs_on.Given as goal

abbrev pub invariant-loop-stop : goal.invariant-loop-stop
invariant-loop-stop l = l.forms.items ≡ flat_map (forms_at l.gathered l.way.by_cite) (take l.stop-index l.stop-items)
