use Rattle.std.proofs.Common.{◌+◌, ◌<◌, drop, sym, ap, ◌∙◌, subst}
use Rattle.std.proofs.lemmas.List.{drop_all}
use Rattle.value_styles.specs.ElementView.{elements_view, branches_view}
use Rattle.value_styles.proofs.Views.{branches_rest}
use Rattle.value_styles.specs.Weight.{weight_all_with, weight_branches_with}
use Rattle.value_styles.proofs.Weight.{lt-branches, lt-last}
use Rattle.layout_picking.specs.InputView.{env_of}
use Rattle.layout_picking.specs.Conditions.{passes, tested}
use Rattle.layout_picking.specs.Pick.{pick_all_with, pick_first_with}
use Rattle.layout_picking.proofs.WorkSteps.{taken, passed}
use Rattle.layout_picking.proofs.picking.chosen_children.Goals as goal

pub returns-then-passes-clause-chosen : goal.returns-then-passes-clause-chosen
returns-then-passes-clause-chosen g c call =
    let env = env_of (g.T.EntryLike.answers c.args.input.now.entry.now) c.args.input.now.setting in
    let last = c.args.otherwise.now in
    let items = c.args.branches.now in
    let i = c.loop-branch.branch-index in
    let b = c.branch-item.result in
    let rest = branches_view (drop (i + 1) items) last in
    let h = branches_rest last items i b c.loop-branch-test.true c.branch-item.is in
    sym (c.loop-branch.invariant.chosen call) ∙ ap (λ bs. pick_first_with env call bs c.loop-branch.notes) h
    ∙ taken env call b.conditions.items b.rule (elements_view b.children.items) rest c.passes.result c.loop-branch.notes c.passes.new.notes
    (c.passes.ensures.value ∙ ap (passes env b.rule) c.deref.ensures.value) c.if-passes.true (c.passes.ensures.after ∙ ap (λ cs. tested cs c.loop-branch.notes) c.deref.ensures.value)
    ∙ ap (λ es. pick_all_with env call (elements_view es) c.passes.new.notes) (sym c.deref-then-passes.ensures.value)

pub loop-branch-preserved : goal.loop-branch-preserved
loop-branch-preserved g c =
    let env = env_of (g.T.EntryLike.answers c.args.input.now.entry.now) c.args.input.now.setting in
    let last = c.args.otherwise.now in
    let items = c.args.branches.now in
    let i = c.loop-branch.branch-index in
    let b = c.branch-item.result in
    let rest = branches_view (drop (i + 1) items) last in
    let h = branches_rest last items i b c.loop-branch-test.true c.branch-item.is in
    record {
      chosen = λ call.
          sym (passed env call b.conditions.items b.rule (elements_view b.children.items) rest c.passes.result c.loop-branch.notes c.passes.new.notes
          (c.passes.ensures.value ∙ ap (passes env b.rule) c.deref.ensures.value) c.if-passes.false (c.passes.ensures.after ∙ ap (λ cs. tested cs c.loop-branch.notes) c.deref.ensures.value))
          ∙ ap (λ bs. pick_first_with env call bs c.loop-branch.notes) (sym h) ∙ c.loop-branch.invariant.chosen call;
      keeps = λ p e. ap (λ n. n.first_name) c.passes.ensures.after ∙ c.loop-branch.invariant.keeps p e;
    }

pub returns-then-passes-clause-keeps : goal.returns-then-passes-clause-keeps
returns-then-passes-clause-keeps g c p e = ap (λ n. n.first_name) c.passes.ensures.after ∙ c.loop-branch.invariant.keeps p e

pub returns-clause-keeps : goal.returns-clause-keeps
returns-clause-keeps g c p e = c.loop-branch.invariant.keeps p e

pub returns-clause-chosen : goal.returns-clause-chosen
returns-clause-chosen g c call =
    let env = env_of (g.T.EntryLike.answers c.args.input.now.entry.now) c.args.input.now.setting in
    let last = c.args.otherwise.now in
    let items = c.args.branches.now in
    let end = drop_all c.loop-branch.branch-index items c.loop-branch-test.false in
    sym (c.loop-branch.invariant.chosen call) ∙ ap (λ xs. pick_first_with env call (branches_view xs last) c.loop-branch.notes) end

pub returns-then-passes-clause-lighter : goal.returns-then-passes-clause-lighter
returns-then-passes-clause-lighter g c call =
    subst (λ es. weight_all_with call (elements_view es) < weight_branches_with call (branches_view c.args.branches.now c.args.otherwise.now)) (sym c.deref-then-passes.ensures.value)
    (lt-branches call c.args.otherwise.now c.args.branches.now c.loop-branch.branch-index c.branch-item.result c.loop-branch-test.true c.branch-item.is)

pub returns-clause-lighter : goal.returns-clause-lighter
returns-clause-lighter g c call = lt-last call c.args.otherwise.now c.args.branches.now
