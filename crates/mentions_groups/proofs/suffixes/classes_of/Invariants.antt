use Rattle.std.proofs.Common.{◌≡◌, map, take}
use Rattle.mentions_groups.specs.Groups.{text_of}
use Rattle.mentions_groups.specs.Suffixes.{laters}
use Rattle.mentions_groups.proofs.suffixes.classes_of.Given as goal

abbrev pub invariant-loop-k : goal.invariant-loop-k
invariant-loop-k l = l.classes.items ≡ map (text_of l.mentions) (laters (take l.k l.mentions))
