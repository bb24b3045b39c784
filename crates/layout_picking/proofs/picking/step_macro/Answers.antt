use Rattle.std.proofs.Common.{◌-◌, ◌<◌, None, arith}
use Rattle.value_styles.specs.Element.{macro_target}
use Rattle.value_styles.specs.ElementView.{elements_view}
use Rattle.layout_picking.specs.declared.picking.OpenMacro.{OpenMacro}
use Rattle.layout_picking.specs.declared.picking.Step.TheVariants as steps
use Rattle.layout_picking.specs.InputView.{macros_in}
use Rattle.layout_picking.specs.HeldView.{held}
use Rattle.layout_picking.specs.Pick.{called_macro}
use Rattle.layout_picking.specs.Picked.{Held}
use Rattle.layout_picking.specs.Pieces.{plain_node}
use Rattle.layout_picking.specs.PiecesView.{node_view, shape_look}
use Rattle.layout_picking.specs.Walk.{env_in, text_of}
use Rattle.layout_picking.proofs.WorkSteps.{no_macro, passed_over, picked_at_once, macro_pushed, macro_fits, pushed-work, macro_weighs}
use Rattle.layout_picking.proofs.picking.step_macro.Goals as goal

pub returns-in-Some-clause-steps : goal.returns-in-Some-clause-steps
returns-in-Some-clause-steps g c =
    let env = env_in g.T.EntryLike.answers c.args.input.now in
    let ms = macros_in c.args.input.now.setting in
    let shape = c.args.shape in
    let node = plain_node (shape_look shape) shape.quotes shape.strip_periods None in
    let s = held c.args.picking.now in
    let now : Held = record s { called = c.and-picking.result } in
    picked_at_once env ms c.args.depth (text_of (macro_target c.args.name.now) shape) c.args.steps.now.items s now
    (passed_over (called_macro env ms c.args.depth c.args.name.now node s.noted) c.in-Some.called s now (c.in-Some.ensures (called_macro env ms) c.requires node) (λ i. record s { called = c.and-picking.ensures i }))

pub returns-in-None-clause-steps : goal.returns-in-None-clause-steps
returns-in-None-clause-steps g c =
    let env = env_in g.T.EntryLike.answers c.args.input.now in
    let ms = macros_in c.args.input.now.setting in
    let shape = c.args.shape in
    let node = plain_node (shape_look shape) shape.quotes shape.strip_periods None in
    let s = held c.args.picking.now in
    picked_at_once env ms c.args.depth (text_of (macro_target c.args.name.now) shape) c.args.steps.now.items s s
    (no_macro env ms c.args.depth c.args.name.now node s c.in-None.ensures)

pub returns-in_ok-push-in-Some-body_of-2-clause-steps : goal.returns-in_ok-push-in-Some-body_of-2-clause-steps
returns-in_ok-push-in-Some-body_of-2-clause-steps g c =
    let env = env_in g.T.EntryLike.answers c.args.input.now in
    let ms = macros_in c.args.input.now.setting in
    let d = c.args.depth in
    let shape = c.args.shape in
    let node = plain_node (shape_look shape) shape.quotes shape.strip_periods None in
    let o = c.in_ok-opened-in-Some-body_of in
    let a = c.args.steps.now.items in
    let b = c.push.new.self.items in
    let all = c.push-in-Some-body_of.new.self.items in
    let s = held c.args.picking.now in
    let now = held c.open.new.self in
    let slice = c.in-Some-body_of.elements in
    let closed = c.in_ok-push-in-Some-body_of.ensures.items in
    let inside = c.in_ok-push-in-Some-body_of-2.ensures.items in
    let deep : 0 < d = omega arith in
    let call : OpenMacro = record { name = c.args.name; depth = d; seen = c.of-seen.result; opened = o.opened } in
    let one = pushed-work ms a b (steps.CloseMacro call) closed in
    let two = pushed-work ms b all (steps.Elements slice (d - 1)) inside in
    let weighs = macro_weighs ms d c.args.name.now (elements_view slice.now) deep c.in-Some-body_of.ensures in
    record {
      done = macro_pushed env ms d a b all slice call node (node_view c.node.result) s now
          closed inside c.node.ensures o.ensures.inside o.ensures.opened deep c.in-Some-body_of.ensures;
      fit = macro_fits env ms d a b all slice call node (node_view c.node.result) s now
          closed inside c.node.ensures o.ensures.inside o.ensures.opened deep c.in-Some-body_of.ensures c.of-seen.ensures;
      falls = omega (arith, one, two, weighs);
    }
