use Rattle.std.proofs.Common.{◌≡◌}
use Rattle.cite_pieces.specs.Nesting.{edges}
use Rattle.cite_pieces.proofs.cases.in_case.Given as goal

abbrev pub invariant-loop-piece : goal.invariant-loop-piece
invariant-loop-piece l = edges l.out.pieces.items ≡ edges l.yielded
