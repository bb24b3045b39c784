use Rattle.std.proofs.Common.{◌≡◌, ◌≤◌, Bool, false, take, drop, length}
use Rattle.std.specs.List.{All}
use Rattle.value_lists.specs.Stack.{topmost, AnswersAs, Gave}
use Rattle.value_lists.proofs.stack.topmost.Given as goal

abbrev pub invariant-loop-height : goal.invariant-loop-height
invariant-loop-height g l =
    (l.height ≤ length l.items)
    × ((p : g.row.T.Denot → Bool) → AnswersAs (goal.F-post g l.f) p → topmost p (take l.height l.items) ≡ topmost p l.items)
    × All (Gave (goal.F-post g l.f) false) (drop l.height l.items)

abbrev pub decreases-loop-height : goal.decreases-loop-height
decreases-loop-height g l = l.height
