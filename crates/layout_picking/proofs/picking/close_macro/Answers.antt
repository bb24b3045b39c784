use Rattle.std.proofs.Common.{◌≡◌, sym, ap, ◌∙◌, subst}
use Rattle.layout_picking.specs.HeldView.{held}
use Rattle.layout_picking.specs.Quiet.{IsQuiet}
use Rattle.layout_picking.proofs.QuietMacros.{macro_noted}
use Rattle.layout_picking.proofs.picking.close_macro.Goals as goal

pub returns-clause-quiet : goal.returns-clause-quiet
returns-clause-quiet c calls is quiet =
    let same : c.close_macro.new.self.notes ≡ c.args.picking.now.notes = ap (λ h. h.noted) c.in_ok-close_macro.ensures ∙ macro_noted c.args.call.opened (held c.args.picking.now) in
    subst (IsQuiet calls c.remember.new.quiet) (sym same) (c.in_ok-remember.ensures calls is quiet)
