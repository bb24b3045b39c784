use Rattle.std.proofs.Common.{[], ◌∷◌, ap}
use Rattle.cite_pieces.specs.Marked.{wraps}
use Rattle.cite_pieces.specs.Nesting.{edges}
use Rattle.cite_pieces.proofs.Depths.{marks_closed}
use Rattle.cite_pieces.proofs.marked.Marker.end.Goals as goal

pub returns-in-Marks-clause-marked : goal.returns-in-Marks-clause-marked
returns-in-Marks-clause-marked c h =
    marks_closed c.push_str.result (edges c.push_str.new.self.pieces.items) (edges c.args.self.now.out.pieces.items)
    c.args.self.now.«open».items c.args.opened (ap (λ o. wraps (o ∷ [])) c.in-Marks.is) c.push_str.ensures.edges h
