use Rattle.std.proofs.Common.{◌≡◌, ◌+◌, length}
use Rattle.cite_trees.specs.Plain.{texts, written}
use Rattle.cite_trees.proofs.trees.tree_of.Given as goal

-- the tree has the text of the pieces that were read
abbrev pub invariant-loop-piece : goal.invariant-loop-piece
invariant-loop-piece l = written l.builder ≡ texts l.yielded

-- it has all of it, and fewer wraps are open each time
abbrev pub invariant-loop : goal.invariant-loop
invariant-loop l =
    (written l.builder ≡ texts l.fn.stream.pieces.items)
    × (length l.builder.«open».items + l.counter ≡ l.end)
