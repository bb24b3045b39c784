use Rattle.cite_pieces.specs.Nesting.{edges}
use Rattle.cite_pieces.proofs.Joined.{edge_waits}
use Rattle.cite_pieces.proofs.punctuation.Joints.wait.Goals as goal

pub returns : goal.returns
returns c = edge_waits (edges c.args.self.now.out.pieces.items) c.push.new.self.items c.args.self.now.behind.items c.args.edge c.in_ok-push.ensures.items
