use Rattle.rounds_grouping.proofs.Swaps.{Moving}
use Rattle.rounds_grouping.proofs.moving.rearrange.Given as goal

abbrev pub invariant-loop-i : goal.invariant-loop-i
invariant-loop-i g l = Moving l.initial.items l.order l.i l.items l.standing l.found_at
