use Rattle.std.proofs.Common.{take}
use Rattle.rounds_names.specs.ByName.{AreByName, shown_by_all}
use Rattle.rounds_names.proofs.by_name.by_name.Given as goal

abbrev pub invariant-loop-member : goal.invariant-loop-member
invariant-loop-member l = AreByName l.by_name (shown_by_all (take l.member-index l.group))
