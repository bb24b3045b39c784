use Rattle.cite_pieces.specs.Nesting.{edges}
use Rattle.cite_pieces.proofs.Depths.{marks_opened}
use Rattle.cite_pieces.proofs.marked.Marker.open_marks.Goals as goal

pub returns : goal.returns
returns c h =
    marks_opened (edges c.push_str.new.self.pieces.items) (edges c.args.self.now.out.pieces.items)
    c.push.new.self.items c.args.self.now.«open».items c.push_str.ensures.edges c.in_ok-push.ensures.items h
