use Rattle.std.proofs.Common.{◌≡◌, ◌+◌, length}
use Rattle.cite_pieces.specs.Marked.{IsMarked}
use Rattle.cite_pieces.proofs.marked.marked.Given as goal

abbrev pub invariant-loop-piece : goal.invariant-loop-piece
invariant-loop-piece l = IsMarked l.marker

-- fewer wraps are open each time
abbrev pub invariant-loop : goal.invariant-loop
invariant-loop l =
    IsMarked l.marker × (length l.marker.«open».items + l.counter ≡ l.end)
