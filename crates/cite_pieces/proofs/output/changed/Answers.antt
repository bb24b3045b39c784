use Rattle.cite_pieces.specs.Nesting.{edges}
use Rattle.cite_pieces.proofs.Levels.{edges_along}
use Rattle.cite_pieces.proofs.output.changed.Goals as goal

pub returns : goal.returns
returns c =
    edges_along c.without_periods.result (edges c.in_ok-cased.cased.pieces.items) (edges c.args.content.pieces.items)
    c.in_ok-cased.ensures c.without_periods.ensures.edges
