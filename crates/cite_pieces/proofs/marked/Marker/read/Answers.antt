use Rattle.cite_pieces.specs.Marked.{wraps}
use Rattle.cite_pieces.specs.Nesting.{edges}
use Rattle.cite_pieces.proofs.Depths.{depth_kept}
use Rattle.cite_pieces.proofs.marked.Marker.read.Goals as goal

pub returns-in-Text : goal.returns-in-Text
returns-in-Text c h =
    depth_kept c.push_str.result (edges c.push_str.new.self.pieces.items) (edges c.args.self.now.out.pieces.items)
    (wraps c.args.self.now.«open».items) c.push_str.ensures.edges h
