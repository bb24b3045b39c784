use Rattle.std.proofs.Common.{◌+◌, ap, arith}
use Rattle.cite_pieces.specs.Levels.{one_if, levels, levels_inside}
use Rattle.cite_pieces.specs.Nesting.{edges}
use Rattle.cite_pieces.proofs.Levels.{as_much, unchanged}
use Rattle.cite_pieces.proofs.output.push_end.Goals as goal

pub returns : goal.returns
returns c n h =
    c.close_if.ensures n
    (unchanged (edges c.push_str.new.self.pieces.items) (edges c.close_wraps.new.out.pieces.items)
    (n + one_if c.is_some.result) c.push_str.ensures.edges
    (c.in_ok-close_wraps.ensures (n + one_if c.is_some.result)
    (as_much (edges c.push_suffix.new.self.pieces.items) (n + levels c.args.element.now)
    (n + one_if c.is_some.result + levels_inside c.args.element.now) (omega (arith, ap one_if c.is_some.ensures))
    (unchanged (edges c.push_suffix.new.self.pieces.items) (edges c.args.out.now.pieces.items)
    (n + levels c.args.element.now) c.push_suffix.ensures.edges h))))
