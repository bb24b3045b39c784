use Rattle.std.proofs.Common.{[], ◌∷◌, ◌++◌, ap, sym, ◌∙◌}
use Rattle.cite_pieces.specs.Nesting.{edges}
use Rattle.cite_pieces.proofs.Edges.{edges_append}
use Rattle.cite_pieces.proofs.cases.without_periods.Goals as goal

pub loop-piece-preserved : goal.loop-piece-preserved
loop-piece-preserved c =
    c.in_ok-push_without_periods.ensures
    ∙ (ap (λ es. es ++ edges (c.in-Some.piece ∷ [])) c.loop-piece.invariant
    ∙ sym (edges_append c.loop-piece.yielded (c.in-Some.piece ∷ [])))
