use Rattle.std.proofs.Common.{◌+◌, ap, arith, is_some}
use Rattle.cite_pieces.specs.Levels.{one_if, levels_inside}
use Rattle.cite_pieces.specs.Nesting.{edges}
use Rattle.cite_pieces.proofs.Levels.{by_sum}
use Rattle.cite_pieces.proofs.output.open_wraps.Goals as goal

pub returns : goal.returns
returns c n h =
    by_sum c.open_if-2.result (edges c.open_if-2.new.out.pieces.items)
    (n + one_if c.args.element.now.has_quotes + one_if (is_some c.args.element.now.mark) + one_if c.asks_for_some.result)
    (n + levels_inside c.args.element.now)
    (omega (arith, ap one_if c.asks_for_some.ensures))
    (c.open_if-2.ensures _ (c.in_ok-open_mark.ensures _ (c.in_ok-open_if.ensures n h)))
