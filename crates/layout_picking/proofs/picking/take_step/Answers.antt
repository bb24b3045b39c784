use Rattle.std.proofs.Common.{◌≡◌, ap, sym, ◌∙◌, subst}
use Rattle.value_styles.specs.Element.{element}
use Rattle.value_styles.specs.ElementView.{element_view, elements_view}
use Rattle.layout_picking.specs.InputView.{macros_in}
use Rattle.layout_picking.specs.HeldView.{held}
use Rattle.layout_picking.specs.Work.{elements_step, step_view, done, step_work}
use Rattle.layout_picking.specs.Walk.{env_in, calls_in, Walk, walk, WalkGoesOn}
use Rattle.layout_picking.proofs.WorkSteps.{elements_taken}
use Rattle.layout_picking.proofs.QuietMacros.{quiet_on}
use Rattle.layout_picking.proofs.picking.take_step.Goals as goal

pub returns-in_ok-take_element-in-Elements-clause-steps : goal.returns-in_ok-take_element-in-Elements-clause-steps
returns-in_ok-take_element-in-Elements-clause-steps g c =
    let env = env_in g.T.EntryLike.answers c.args.input.now in
    let ms = macros_in c.args.input.now.setting in
    let d = c.in-Elements.depth in
    let a = c.args.steps.now.items in
    let s = held c.args.picking.now in
    let e = element_view c.in-Some.element.now in
    let rest = c.in-Some.rest in
    let new : Walk = walk c.take_element.new.steps.items (held c.take_element.new.picking) in
    let is : elements_step (element e (elements_view rest.now)) d ≡ step_view c.args.step =
    ap (λ xs. elements_step (elements_view xs) d) (sym c.in-Some.ensures.cases.0) ∙ ap step_view (sym c.in-Elements.is) in
    subst (λ x. WalkGoesOn env ms (step_work ms x) (walk a (done env ms x s)) new) is
    (elements_taken env ms d a c.push.new.self.items rest e s new c.in_ok-push-in-Elements.ensures.items c.in_ok-take_element-in-Elements.ensures.steps)

pub returns-in_ok-take_element-in-Elements-clause-quiet : goal.returns-in_ok-take_element-in-Elements-clause-quiet
returns-in_ok-take_element-in-Elements-clause-quiet g c =
    quiet_on (calls_in g.T.EntryLike.answers c.args.input.now) c.args.quiet.now c.args.picking.now.notes c.take_element.new.picking.notes
    c.requires.quiet c.in_ok-take_element-in-Elements.ensures.keeps
