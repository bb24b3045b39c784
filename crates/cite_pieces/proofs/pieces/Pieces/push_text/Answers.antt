use Rattle.std.proofs.Common.{refl}
use Rattle.cite_pieces.proofs.Edges.{edges_same}
use Rattle.cite_pieces.proofs.pieces.Pieces.push_text.Goals as goal

pub returns : goal.returns
returns c = record { edges = edges_same _ _ _ refl c.in_ok-push.ensures.items }
