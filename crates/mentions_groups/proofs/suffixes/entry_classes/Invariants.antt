use Rattle.std.proofs.Common.{◌≡◌, map, take}
use Rattle.mentions_groups.specs.Suffixes.{entry_class, laters}
use Rattle.mentions_groups.proofs.suffixes.entry_classes.Given as goal

abbrev pub invariant-loop-mention : goal.invariant-loop-mention
invariant-loop-mention l = l.entries.items ≡ map (entry_class l.mentions) (laters (take l.mention-index l.mentions))
