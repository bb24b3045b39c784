use Rattle.std.proofs.Common.{◌≡◌, map, take}
use Rattle.mentions_groups.specs.Readings.{reading_of}
use Rattle.mentions_groups.proofs.suffixes.readings_of.Given as goal

abbrev pub invariant-loop-k : goal.invariant-loop-k
invariant-loop-k l = l.readings.items ≡ map (reading_of l.mentions) (take l.k l.mentions)
