use Rattle.std.proofs.Common.{◌≡◌, map, take}
use Rattle.mentions_groups.specs.Groups.{group_of}
use Rattle.mentions_groups.proofs.groups.groups_of.Given as goal

abbrev pub invariant-loop-mention : goal.invariant-loop-mention
invariant-loop-mention l = l.found.items ≡ map (group_of l.mentions) (take l.mention-index l.mentions)
