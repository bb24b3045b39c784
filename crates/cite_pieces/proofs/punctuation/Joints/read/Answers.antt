use Rattle.std.proofs.Common.{true, false, [], ◌∷◌, ap}
use Rattle.cite_pieces.specs.Joints.{read_edges}
use Rattle.cite_pieces.specs.Nesting.{edges}
use Rattle.cite_pieces.proofs.Joined.{edge_read, text_read}
use Rattle.cite_pieces.proofs.punctuation.Joints.read.Goals as goal

pub returns-in-Text : goal.returns-in-Text
returns-in-Text c =
    text_read c.push_text.result (read_edges c.push_text.new.self) (read_edges c.args.self.now) (edges (c.args.piece ∷ []))
    (ap (λ p. edges (p ∷ [])) c.in-Text.is) c.push_text.ensures

pub returns-in-Open : goal.returns-in-Open
returns-in-Open c =
    edge_read c.«open».result (read_edges c.«open».new.self) (read_edges c.args.self.now) (edges (c.args.piece ∷ [])) (true ∷ [])
    (ap (λ p. edges (p ∷ [])) c.in-Open.is) c.«open».ensures

pub returns-in-Close : goal.returns-in-Close
returns-in-Close c =
    edge_read c.close.result (read_edges c.close.new.self) (read_edges c.args.self.now) (edges (c.args.piece ∷ [])) (false ∷ [])
    (ap (λ p. edges (p ∷ [])) c.in-Close.is) c.close.ensures
