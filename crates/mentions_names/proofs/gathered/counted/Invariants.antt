use Rattle.std.proofs.Common.{◌≡◌, map, take}
use Rattle.std.specs.List.{enumerate_from}
use Rattle.mentions_names.specs.Gathered.{count_at}
use Rattle.mentions_names.specs.Telling.{greatest}
use Rattle.mentions_names.proofs.gathered.counted.Given as goal

abbrev pub invariant-loop-i : goal.invariant-loop-i
invariant-loop-i l = l.count ≡ greatest (map (count_at l.gathered) (take l.i (enumerate_from 0 l.stop-items)))
