use Rattle.cite_pieces.proofs.Edges.{appended}
use Rattle.cite_pieces.proofs.pieces.Pieces.push_pieces.Goals as goal

pub returns : goal.returns
returns c = record {
  edges = appended c.append.result c.append.new.self.items c.args.self.now.pieces.items c.args.other.pieces.items c.append.ensures.items;
}
