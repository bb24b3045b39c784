use Rattle.std.proofs.Common.{◌≡◌, [], ◌++◌, map}
use Rattle.cite_pieces.specs.Joints.{waiting_edge}
use Rattle.cite_pieces.specs.Nesting.{edges}
use Rattle.cite_pieces.proofs.punctuation.Joints.write_last.Given as goal

-- so many of those that waited are written, and no others wait
abbrev pub invariant-loop-edge : goal.invariant-loop-edge
invariant-loop-edge l = record {
  edges : edges l.self.out.pieces.items ≡ edges l.fn.self.out.pieces.items ++ map waiting_edge l.yielded;
  behind : l.self.behind.items ≡ [];
}
