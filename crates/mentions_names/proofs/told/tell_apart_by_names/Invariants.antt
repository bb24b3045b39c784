use Rattle.std.proofs.Common.{◌≡◌, map, take}
use Rattle.mentions_names.specs.Told.{told_by_names}
use Rattle.mentions_names.proofs.told.tell_apart_by_names.Given as goal

abbrev pub invariant-loop-k : goal.invariant-loop-k
invariant-loop-k l = l.found.items ≡ map (told_by_names l.mentions) (take l.k l.mentions)
