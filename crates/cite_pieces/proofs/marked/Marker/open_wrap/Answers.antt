use Rattle.cite_pieces.specs.Nesting.{edges}
use Rattle.cite_pieces.proofs.Depths.{wrap_opened}
use Rattle.cite_pieces.proofs.marked.Marker.open_wrap.Goals as goal

pub returns : goal.returns
returns c w h =
    wrap_opened (edges c.«open».new.self.pieces.items) (edges c.args.self.now.out.pieces.items)
    c.push.new.self.items c.args.self.now.«open».items c.args.opened w c.in_ok-open.ensures c.in_ok-push.ensures.items h
