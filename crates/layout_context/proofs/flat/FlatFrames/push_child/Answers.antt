-- A child behind all others.
use Rattle.std.proofs.Common.{◌++◌, ◌∷◌, [], length, ap, ◌∙◌, arith}
use Rattle.value_trees.specs.ChildView.{child_view}
use Rattle.layout_context.specs.Cuts.{cut}
use Rattle.layout_context.specs.OpenFrames.{on_top}
use Rattle.layout_context.proofs.CutSteps.{same_height}
use Rattle.layout_context.proofs.OpenSteps.{pushed_cut, done_along}
use Rattle.layout_context.proofs.flat.FlatFrames.push_child.Goals as goal

pub returns-clause-done : goal.returns-clause-done
returns-clause-done c =
    let ns = c.self.inside.counts.items in
    done_along c.push_child.result (cut ns) _ _ _ (pushed_cut ns c.self.inside.children (child_view c.args.child) (omega (arith, c.self.invariant.0, c.self.invariant.1)) ∙ ap (on_top (λ cs. cs ++ child_view c.args.child ∷ [])) c.self.view_is) c.push_child.ensures.done

pub returns-clause-height : goal.returns-clause-height
returns-clause-height c = same_height c.self.inside.counts.items _ c.self.inside.children ∙ ap length c.self.view_is
