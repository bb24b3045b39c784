use Rattle.cite_pieces.specs.Nesting.{edges}
use Rattle.cite_pieces.proofs.Levels.{opened}
use Rattle.cite_pieces.proofs.output.open_if.Goals as goal

pub returns : goal.returns
returns c n h =
    opened c.«open».result (edges c.«open».new.self.pieces.items) (edges c.args.out.now.pieces.items)
    n c.args.has_it (cc) c.«open».ensures h
