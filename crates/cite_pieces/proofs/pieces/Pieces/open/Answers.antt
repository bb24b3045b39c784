use Rattle.std.proofs.Common.{[], ◌∷◌}
use Rattle.cite_pieces.specs.declared.piece.Piece.TheVariants.{Open}
use Rattle.cite_pieces.proofs.Edges.{edges_both}
use Rattle.cite_pieces.proofs.pieces.Pieces.open.Goals as goal

pub returns : goal.returns
returns c = edges_both c.push.new.self.items c.args.self.now.pieces.items (Open c.args.wrap ∷ []) c.in_ok-push.ensures.items
