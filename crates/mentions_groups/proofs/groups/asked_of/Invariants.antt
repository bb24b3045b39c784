use Rattle.std.proofs.Common.{◌≡◌, map, take}
use Rattle.mentions_groups.specs.Groups.{is_asked}
use Rattle.mentions_groups.proofs.groups.asked_of.Given as goal

abbrev pub invariant-loop-mention : goal.invariant-loop-mention
invariant-loop-mention l = l.asked.items ≡ map (is_asked l.mentions) (take l.mention-index l.mentions)
