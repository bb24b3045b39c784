use Rattle.std.proofs.Common.{◌≡◌, drop}
use Rattle.value_styles.specs.ElementView.{branches_view}
use Rattle.layout_picking.specs.InputView.{env_of}
use Rattle.layout_picking.specs.Pick.{Call, pick_first_with}
use Rattle.layout_picking.specs.Quiet.{Keeps}
use Rattle.layout_picking.proofs.picking.chosen_children.Given as goal

abbrev pub invariant-loop-branch : goal.invariant-loop-branch
invariant-loop-branch g l =
    let env = env_of (g.T.EntryLike.answers l.input.entry.now) l.input.setting in
    record {
      chosen : (call : Call)
          → pick_first_with env call (branches_view (drop l.branch-index l.branches) l.otherwise) l.notes ≡ pick_first_with env call (branches_view l.branches l.otherwise) l.initial.notes;
      keeps : Keeps l.initial.notes l.notes;
    }
