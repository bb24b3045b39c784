use Rattle.std.proofs.Common.{sym, ◌∙◌}
use Rattle.layout_picking.specs.HeldView.{held}
use Rattle.layout_picking.proofs.QuietMacros.{closed_quiet}
use Rattle.layout_picking.proofs.picking.remember.Goals as goal

pub returns : goal.returns
returns c calls is quiet =
    let m = c.args.call in
    c.in_ok-add.ensures calls quiet
    (closed_quiet calls m.name.now m.depth m.seen m.opened (held c.args.picking.now) is (sym c.is_empty_node.ensures ∙ c.if-not-is_empty_node.false) (c.is_of.ensures c.if-not-is_of.false))
