use Rattle.std.proofs.Common.{take}
use Rattle.mentions_groups.specs.Readings.{AreReadingsOf}
use Rattle.mentions_groups.proofs.suffixes.by_reading.Given as goal

abbrev pub invariant-loop-k : goal.invariant-loop-k
invariant-loop-k l = AreReadingsOf l.mentions l.found (take l.k l.mentions)
