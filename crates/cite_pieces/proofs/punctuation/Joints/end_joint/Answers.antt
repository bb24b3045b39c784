use Rattle.cite_pieces.specs.Joints.{read_edges}
use Rattle.cite_pieces.specs.Nesting.{edges}
use Rattle.cite_pieces.proofs.Joined.{all_written}
use Rattle.cite_pieces.proofs.punctuation.Joints.end_joint.Goals as goal

pub returns : goal.returns
returns c =
    all_written (edges c.write_last.new.self.out.pieces.items) (read_edges c.args.self.now) c.write_last.new.self.behind.items
    c.in_ok-write_last.ensures.edges c.in_ok-write_last.ensures.behind
