use Rattle.std.proofs.Common.{◌≡◌, map, take}
use Rattle.std.specs.List.{enumerate_from}
use Rattle.mentions_arranging.specs.Collapsing.{whole_in_part}
use Rattle.mentions_arranging.proofs.years.whole_in_parts.Given as goal

abbrev pub invariant-loop-place : goal.invariant-loop-place
invariant-loop-place l = l.years.items ≡ map whole_in_part (take l.place (enumerate_from 0 l.parts))
