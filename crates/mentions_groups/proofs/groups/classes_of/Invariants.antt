use Rattle.std.proofs.Common.{take}
use Rattle.std.specs.List.{enumerate_from}
use Rattle.mentions_groups.specs.Classes.{AreClassesOf}
use Rattle.mentions_groups.proofs.groups.classes_of.Given as goal

abbrev pub invariant-loop-k : goal.invariant-loop-k
invariant-loop-k l = AreClassesOf l.classes (take l.k (enumerate_from 0 l.mentions))
