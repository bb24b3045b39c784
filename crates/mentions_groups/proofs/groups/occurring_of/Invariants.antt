use Rattle.std.proofs.Common.{take}
use Rattle.std.specs.Prelude.{filter}
use Rattle.std.specs.List.{enumerate_from}
use Rattle.mentions_groups.specs.Classes.{AreClassesOf, does_occur}
use Rattle.mentions_groups.proofs.groups.occurring_of.Given as goal

abbrev pub invariant-loop-k : goal.invariant-loop-k
invariant-loop-k l = AreClassesOf l.classes (filter does_occur (take l.k (enumerate_from 0 l.mentions)))
