use Rattle.std.proofs.Common.{◌∙◌}
use Rattle.layout_picking.proofs.QuietMacros.{known}
use Rattle.layout_picking.proofs.quiet.QuietMacros.called.Goals as goal

pub returns : goal.returns
returns c = known c.args.self.now c.args.notes.now c.args.name.now c.args.depth c.copied.result (c.copied.ensures ∙ c.get.ensures.value)
    (c.is_of.ensures c.if-not-is_of.false)
