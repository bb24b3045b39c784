use Rattle.cite_pieces.specs.Nesting.{edges}
use Rattle.cite_pieces.proofs.Levels.{closed}
use Rattle.cite_pieces.proofs.output.close_if.Goals as goal

pub returns : goal.returns
returns c n h =
    closed c.close.result (edges c.close.new.self.pieces.items) (edges c.args.out.now.pieces.items)
    n c.args.had_it (cc) c.close.ensures h
