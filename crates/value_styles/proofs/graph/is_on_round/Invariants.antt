use Rattle.std.proofs.Common.{◌≡◌, ◌+◌, ◌-◌, map, length}
use Rattle.value_styles.specs.Places.{IsMarked}
use Rattle.value_styles.proofs.Reached.{left, IsReached}
use Rattle.value_styles.proofs.graph.is_on_round.Given as goal

abbrev pub invariant-loop-at : goal.invariant-loop-at
invariant-loop-at l =
    IsReached (map (λ row. row.items) l.rows) l.start l.found.items l.at
    × IsMarked l.marks.items l.found.items
    × (length l.marks.items ≡ length l.rows)

abbrev pub decreases-loop-at : goal.decreases-loop-at
decreases-loop-at l = left (length l.rows) l.found.items + (length l.found.items - l.at)
