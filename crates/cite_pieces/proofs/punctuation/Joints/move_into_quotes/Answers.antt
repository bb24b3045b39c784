use Rattle.cite_pieces.specs.Nesting.{edges}
use Rattle.cite_pieces.proofs.Joined.{waiting_split}
use Rattle.cite_pieces.proofs.punctuation.Joints.move_into_quotes.Goals as goal

pub returns : goal.returns
returns c =
    waiting_split (edges c.args.self.now.out.pieces.items) (edges c.write_last.new.self.out.pieces.items) c.args.place
    c.split_off.new.self.items c.in_ok-behind.behind.items c.args.self.now.behind.items
    c.in_ok-write_last.ensures.edges c.in_ok-behind.ensures.items c.in_ok-behind.ensures.tail
