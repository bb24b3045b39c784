-- One element in the place of the children of the top frame.
use Rattle.std.proofs.Common.{List, ◌++◌, ◌∷◌, [], take, drop, length, ap, ◌∙◌, arith}
use Rattle.value_trees.specs.Child.{Child, elem, kids_of}
use Rattle.layout_context.specs.Cuts.{cut}
use Rattle.layout_context.specs.OpenFrames.{on_top}
use Rattle.layout_context.proofs.CutSteps.{same_height}
use Rattle.layout_context.proofs.OpenSteps.{wrapped_cut, done_along}
use Rattle.layout_context.proofs.flat.FlatFrames.wrap_top.Goals as goal

pub returns-clause-done : goal.returns-clause-done
returns-clause-done c =
    let ns = c.self.inside.counts.items in
    let xs = c.self.inside.children in
    let f : List Child → Child = λ cs. elem (kids_of cs) c.args.display c.args.meta in
    done_along c.wrap.result (cut ns) _ _ _ (ap (λ n. cut ns (take n xs ++ f (drop n xs) ∷ [])) c.self.invariant.0 ∙ wrapped_cut f ns xs (omega (arith, c.self.invariant.0, c.self.invariant.1)) ∙ ap (on_top (λ cs. f cs ∷ [])) c.self.view_is) c.wrap.ensures.done

pub returns-clause-height : goal.returns-clause-height
returns-clause-height c = same_height c.self.inside.counts.items _ c.self.inside.children ∙ ap length c.self.view_is
