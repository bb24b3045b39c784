use Rattle.std.proofs.Common.{◌+◌, ap, arith}
use Rattle.cite_pieces.specs.Levels.{one_if, levels_inside}
use Rattle.cite_pieces.specs.Nesting.{edges}
use Rattle.cite_pieces.proofs.Levels.{as_much}
use Rattle.cite_pieces.proofs.output.close_wraps.Goals as goal

pub returns : goal.returns
returns c n h =
    c.close_if-3.ensures n
    (c.in_ok-close_if-2.ensures (n + one_if c.args.element.now.has_quotes)
    (c.in_ok-close_if.ensures (n + one_if c.args.element.now.has_quotes + one_if c.is_some.result)
    (as_much (edges c.args.out.now.pieces.items) (n + levels_inside c.args.element.now)
    (n + one_if c.args.element.now.has_quotes + one_if c.is_some.result + one_if c.asks_for_some.result)
    (omega (arith, ap one_if c.asks_for_some.ensures, ap one_if c.is_some.ensures)) h)))
