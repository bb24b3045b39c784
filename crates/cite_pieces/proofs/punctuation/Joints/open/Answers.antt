use Rattle.std.proofs.Common.{true, [], ◌∷◌, ◌++◌}
use Rattle.cite_pieces.specs.Joints.{read_edges}
use Rattle.cite_pieces.proofs.Joined.{wait_ended}
use Rattle.cite_pieces.proofs.punctuation.Joints.«open».Goals as goal

pub returns : goal.returns
returns c =
    wait_ended c.end_joint.result (read_edges c.end_joint.new.self) (read_edges c.wait.new.self) (read_edges c.args.self.now ++ true ∷ [])
    c.end_joint.ensures c.in_ok-wait.ensures
