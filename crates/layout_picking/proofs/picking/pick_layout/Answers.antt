use Rattle.std.proofs.Common.{◌≡◌, ◌<◌, length, ap, sym, ◌∙◌, arith}
use Rattle.value_styles.specs.ElementView.{elements_view}
use Rattle.value_styles.proofs.Views.{macros_length}
use Rattle.layout_picking.specs.declared.picking.Step.TheVariants as steps
use Rattle.layout_picking.specs.InputView.{env_of, macros_in}
use Rattle.layout_picking.specs.HeldView.{held}
use Rattle.layout_picking.specs.Picked.{added}
use Rattle.layout_picking.specs.Pick.{picks_all}
use Rattle.layout_picking.specs.Work.{steps_view, all_done, work}
use Rattle.layout_picking.proofs.WorkSteps.{pushed, pushed-work, fits_popped, no_items}
use Rattle.layout_picking.proofs.picking.pick_layout.Goals as goal

pub loop-step-smaller : goal.loop-step-smaller
loop-step-smaller g c =
    let ms = macros_in c.args.input.now.setting in
    let one = pushed-work ms c.pop.new.self.items c.loop-step.steps.items c.in-Some.step c.in-Some.ensures.items in
    let falls = c.in_ok-take_step.ensures.steps.falls in
    let h : work ms (steps_view c.take_step.new.steps.items) < work ms (steps_view c.loop-step.steps.items) = omega (arith, one, falls) in
    h

pub take_step-requires-clause-fits : goal.take_step-requires-clause-fits
take_step-requires-clause-fits g c =
    let env = env_of (g.T.EntryLike.answers c.args.input.now.entry.now) c.args.input.now.setting in
    let ms = macros_in c.args.input.now.setting in
    (fits_popped env ms c.pop.new.self.items c.loop-step.steps.items c.in-Some.step (held c.loop-step.picking) c.in-Some.ensures.items c.loop-step.invariant.fit).1

pub loop-step-preserved : goal.loop-step-preserved
loop-step-preserved g c =
    let env = env_of (g.T.EntryLike.answers c.args.input.now.entry.now) c.args.input.now.setting in
    let ms = macros_in c.args.input.now.setting in
    let popped = fits_popped env ms c.pop.new.self.items c.loop-step.steps.items c.in-Some.step (held c.loop-step.picking) c.in-Some.ensures.items c.loop-step.invariant.fit in
    record {
      all = c.in_ok-take_step.ensures.steps.done ∙ sym (pushed env ms c.pop.new.self.items c.loop-step.steps.items c.in-Some.step (held c.loop-step.picking) c.in-Some.ensures.items)
          ∙ c.loop-step.invariant.all;
      fit = c.in_ok-take_step.ensures.steps.fit popped.0;
      quiet = c.in_ok-take_step.ensures.quiet;
    }

pub returns : goal.returns
returns g c =
    let env = env_of (g.T.EntryLike.answers c.args.input.now.entry.now) c.args.input.now.setting in
    let macros = c.args.input.now.setting.context.style.now.macros in
    let ms = macros_in c.args.input.now.setting in
    let d = c.len-depth.result in
    let h = held c.args.picking.now in
    let empty = no_items c.loop-step.steps.items (omega (arith, c.loop-step.steps.ok.0, c.in_default.ensures.cases.0)) in
    let deep : d ≡ length ms = omega (arith, macros_length macros.items, macros.ok.0, c.len-depth.ensures) in
    ap (λ xs. all_done env ms (steps_view xs) (held c.loop-step.picking)) (sym empty)
    ∙ c.loop-step.invariant.all
    ∙ pushed env ms c.in_ok-steps.steps.items c.push.new.self.items (steps.Elements c.args.elements d) h c.in_ok-push.ensures.items
    ∙ ap (λ xs. all_done env ms (steps_view xs) (added (picks_all env ms d (elements_view c.args.elements.now) h.noted) h)) c.in_ok-steps.ensures.items
    ∙ ap (λ k. added (picks_all env ms k (elements_view c.args.elements.now) h.noted) h) deep
