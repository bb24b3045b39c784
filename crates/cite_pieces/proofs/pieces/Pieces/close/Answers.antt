use Rattle.std.proofs.Common.{[], ◌∷◌}
use Rattle.cite_pieces.specs.declared.piece.Piece.TheVariants.{Close}
use Rattle.cite_pieces.proofs.Edges.{edges_both}
use Rattle.cite_pieces.proofs.pieces.Pieces.close.Goals as goal

pub returns : goal.returns
returns c = edges_both c.push.new.self.items c.args.self.now.pieces.items (Close ∷ []) c.in_ok-push.ensures.items
