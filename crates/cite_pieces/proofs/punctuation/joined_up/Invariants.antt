use Rattle.std.proofs.Common.{◌≡◌}
use Rattle.cite_pieces.specs.Joints.{read_edges}
use Rattle.cite_pieces.specs.Nesting.{edges}
use Rattle.cite_pieces.proofs.punctuation.joined_up.Given as goal

abbrev pub invariant-loop-piece : goal.invariant-loop-piece
invariant-loop-piece l = read_edges l.joints ≡ edges l.yielded
