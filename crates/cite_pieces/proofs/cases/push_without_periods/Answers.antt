use Rattle.std.proofs.Common.{true, false, [], ◌∷◌, ap}
use Rattle.cite_pieces.specs.Nesting.{edges}
use Rattle.cite_pieces.proofs.Joined.{edge_read, text_added}
use Rattle.cite_pieces.proofs.cases.push_without_periods.Goals as goal

pub returns-in_ok-replace-in-Text : goal.returns-in_ok-replace-in-Text
returns-in_ok-replace-in-Text c =
    text_added c.push_text.result (edges c.push_text.new.self.pieces.items) (edges c.args.out.now.pieces.items) (edges (c.args.piece ∷ []))
    (ap (λ p. edges (p ∷ [])) c.in-Text.is) c.push_text.ensures.edges

pub returns-in-Open : goal.returns-in-Open
returns-in-Open c =
    edge_read c.«open».result (edges c.«open».new.self.pieces.items) (edges c.args.out.now.pieces.items) (edges (c.args.piece ∷ [])) (true ∷ [])
    (ap (λ p. edges (p ∷ [])) c.in-Open.is) c.«open».ensures

pub returns-in-Close : goal.returns-in-Close
returns-in-Close c =
    edge_read c.close.result (edges c.close.new.self.pieces.items) (edges c.args.out.now.pieces.items) (edges (c.args.piece ∷ [])) (false ∷ [])
    (ap (λ p. edges (p ∷ [])) c.in-Close.is) c.close.ensures
