use Rattle.std.proofs.Common.{◌≡◌}
use Rattle.layout_picking.specs.InputView.{env_of, macros_in}
use Rattle.layout_picking.specs.HeldView.{held}
use Rattle.layout_picking.specs.Work.{steps_view, all_done, AllFit, work}
use Rattle.layout_picking.specs.Pick.{called_macro}
use Rattle.layout_picking.specs.Quiet.{IsQuiet}
use Rattle.layout_picking.proofs.picking.pick_layout.Given as goal

abbrev pub invariant-loop-step : goal.invariant-loop-step
invariant-loop-step g l =
    let env = env_of (g.T.EntryLike.answers l.input.entry.now) l.input.setting in
    let ms = macros_in l.input.setting in
    record {
      all : all_done env ms (steps_view l.steps.items) (held l.picking) ≡ all_done env ms (steps_view l.initial.steps.items) (held l.initial.picking);
      fit : AllFit env ms (steps_view l.steps.items) (held l.picking);
      quiet : IsQuiet (called_macro env ms) l.quiet l.picking.notes;
    }

abbrev pub decreases-loop-step : goal.decreases-loop-step
decreases-loop-step g l = work (macros_in l.input.setting) (steps_view l.steps.items)
