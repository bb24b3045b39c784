use Rattle.std.proofs.Common.{◌≡◌, ◌<◌, ap, ap₂, sym, ◌∙◌, subst, arith}
use Rattle.value_styles.specs.ElementView.{elements_view, branches_view, text_view, look}
use Rattle.value_styles.proofs.Views.{group_view, choose_view}
use Rattle.layout_picking.specs.declared.picking.Step.TheVariants as steps
use Rattle.layout_picking.specs.InputView.{macros_in}
use Rattle.layout_picking.specs.HeldView.{held}
use Rattle.layout_picking.specs.Picked.{Held, added}
use Rattle.layout_picking.specs.PiecesView.{node_view}
use Rattle.layout_picking.specs.Pick.{group_node, called_macro, picks_first}
use Rattle.layout_picking.specs.Work.{steps_view, step_view, done, all_done, AllFit, macro_weight, weight_all}
use Rattle.value_styles.specs.Weight.{weight_branches_with}
use Rattle.layout_picking.specs.Walk.{env_in}
use Rattle.layout_picking.proofs.WorkSteps.{group_pushed, group_fits, pushed, fits_more, pushed-work}
use Rattle.layout_picking.proofs.picking.step_inside.Goals as goal

pub returns-in_ok-push-in-Group-2-clause-steps : goal.returns-in_ok-push-in-Group-2-clause-steps
returns-in_ok-push-in-Group-2-clause-steps g c =
    let env = env_in g.T.EntryLike.answers c.args.input.now in
    let ms = macros_in c.args.input.now.setting in
    let d = c.args.depth in
    let e = c.in-Group in
    let o = c.in_ok-opened-in-Group in
    let a = c.args.steps.now.items in
    let b = c.push.new.self.items in
    let all = c.push-in-Group.new.self.items in
    let s = held c.args.picking.now in
    let slice = c.as_slice.result in
    let node = group_node (look e.affixes e.formatting e.display) (text_view e.delimiter) in
    let closed = c.in_ok-push-in-Group.ensures.items in
    let inside = c.in_ok-push-in-Group-2.ensures.items in
    let one = pushed-work ms a b (steps.CloseGroup o.opened) closed in
    let two = pushed-work ms b all (steps.Elements slice d) inside in
    let same = ap (λ xs. weight_all ms d (elements_view xs)) c.as_slice.ensures.value in
    rw (e.is, group_view e.children e.delimiter e.affixes e.formatting e.display) (record {
      done = group_pushed env ms d a b all slice e.children.items o.opened node (node_view c.group_node.result) s (held c.open.new.self)
          closed inside c.as_slice.ensures.value c.group_node.ensures o.ensures.inside o.ensures.opened;
      fit = group_fits env ms d a b all slice e.children.items o.opened node (node_view c.group_node.result) s (held c.open.new.self)
          closed inside c.as_slice.ensures.value c.group_node.ensures o.ensures.inside o.ensures.opened;
      falls = omega (arith, one, two, same);
    })

pub returns-in_ok-push-in-Choose-clause-steps : goal.returns-in_ok-push-in-Choose-clause-steps
returns-in_ok-push-in-Choose-clause-steps g c =
    let env = env_in g.T.EntryLike.answers c.args.input.now in
    let ms = macros_in c.args.input.now.setting in
    let d = c.args.depth in
    let e = c.in-Choose in
    let a = c.args.steps.now.items in
    let b = c.push-in-Choose.new.self.items in
    let s = held c.args.picking.now in
    let now : Held = record s { noted = c.chosen_children-children.new.notes } in
    let step = steps.Elements c.chosen_children-children.result d in
    let added_last = c.in_ok-push-in-Choose.ensures.items in
    let parts = ap₂ branches_view c.deref.ensures.value c.deref-in-Choose.ensures.value in
    let is : added (picks_first env ms d (branches_view e.branches.items e.otherwise.items) s.noted) s ≡ done env ms (step_view step) now =
    ap (λ bs. added (picks_first env ms d bs s.noted) s) (sym parts) ∙ ap (λ p. added p s) (c.chosen_children-children.ensures.chosen (called_macro env ms d)) in
    let one = pushed-work ms a b step added_last in
    let lighter = subst (λ bs. weight_all ms d (elements_view c.chosen_children-children.result.now) < weight_branches_with (macro_weight ms d) bs) parts
    (c.chosen_children-children.ensures.lighter (macro_weight ms d)) in
    rw (e.is, choose_view e.branches e.otherwise) (record {
      done = pushed env ms a b step now added_last ∙ ap (all_done env ms (steps_view a)) (sym is);
      fit = λ all. fits_more env ms a b step now added_last (subst (AllFit env ms (steps_view a)) is all) tt;
      falls = omega (arith, one, lighter);
    })
