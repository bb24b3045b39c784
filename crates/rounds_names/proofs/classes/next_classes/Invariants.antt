use Rattle.std.proofs.Common.{map, take}
use Rattle.std.specs.List.{zip}
use Rattle.rounds_names.proofs.Keys.{key_of, same_key}
use Rattle.rounds_names.proofs.Numbers.{AreNumbers}
use Rattle.rounds_names.proofs.classes.next_classes.Given as goal

abbrev pub invariant-loop-k : goal.invariant-loop-k
invariant-loop-k l = AreNumbers same_key l.keys.keys (map (key_of l.rule l.i) (take l.k (zip l.group l.classes))) l.found.items
