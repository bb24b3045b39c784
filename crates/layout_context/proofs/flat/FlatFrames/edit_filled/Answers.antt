-- A change at the end of the list of children.
use Rattle.std.proofs.Common.{length, ap, ◌∙◌, arith}
use Rattle.layout_context.specs.Cuts.{cut}
use Rattle.layout_context.specs.Edits.{edited}
use Rattle.layout_context.specs.OpenFrames.{on_last_text, on_filled}
use Rattle.layout_context.proofs.CutSteps.{end-length, same_height}
use Rattle.layout_context.proofs.OpenSteps.{filled_cut, on_last_text-end}
use Rattle.layout_context.proofs.flat.FlatFrames.edit_filled.Goals as goal

pub invariant_of-self : goal.invariant_of-self
invariant_of-self c =
    let f = on_last_text (edited c.args.edit.now) in
    (c.self.invariant.0, omega (arith, c.self.invariant.1, ap length c.edit_last_text.ensures, end-length f (on_last_text-end (edited c.args.edit.now)) c.self.inside.children), c.self.invariant.2)

pub returns-clause-done : goal.returns-clause-done
returns-clause-done c =
    let f = on_last_text (edited c.args.edit.now) in
    let ns = c.self.inside.counts.items in
    ap (cut ns) c.edit_last_text.ensures
    ∙ filled_cut f (on_last_text-end (edited c.args.edit.now)) ns c.self.inside.children
    ∙ ap (on_filled f) c.self.view_is

pub returns-clause-height : goal.returns-clause-height
returns-clause-height c = same_height c.self.inside.counts.items _ c.self.inside.children ∙ ap length c.self.view_is
