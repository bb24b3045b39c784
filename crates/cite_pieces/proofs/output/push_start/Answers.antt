use Rattle.std.proofs.Common.{◌+◌, arith, is_some}
use Rattle.cite_pieces.specs.Levels.{one_if, levels, levels_inside}
use Rattle.cite_pieces.specs.Nesting.{edges}
use Rattle.cite_pieces.proofs.Depths.{depth_kept}
use Rattle.cite_pieces.proofs.Levels.{as_much, unchanged}
use Rattle.cite_pieces.proofs.output.push_start.Goals as goal

pub returns : goal.returns
returns c n h =
    depth_kept c.push_str-2.result (edges c.push_str-2.new.self.pieces.items) (edges c.open_wraps.new.out.pieces.items)
    (n + levels c.args.element.now) c.push_str-2.ensures.edges
    (as_much (edges c.open_wraps.new.out.pieces.items)
    (n + one_if (is_some c.args.element.now.display) + levels_inside c.args.element.now) (n + levels c.args.element.now) (omega arith)
    (c.in_ok-open_wraps.ensures (n + one_if (is_some c.args.element.now.display))
    (unchanged (edges c.push_str.new.self.pieces.items) (edges c.open_display.new.out.pieces.items)
    (n + one_if (is_some c.args.element.now.display)) c.push_str.ensures.edges (c.in_ok-open_display.ensures n h))))
