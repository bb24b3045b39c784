-- The children from where the top frame begins.
use Rattle.std.proofs.Common.{Some, drop, ap, ◌∙◌, sym}
use Rattle.layout_context.specs.OpenFrames.{top}
use Rattle.layout_context.proofs.OpenSteps.{top_cut}
use Rattle.layout_context.proofs.flat.FlatFrames.top.Goals as goal

pub returns : goal.returns
returns c =
    let xs = c.self.inside.children in
    ap (λ z. Some z) (c.children_from.ensures ∙ ap (λ n. drop n xs) c.self.invariant.0)
    ∙ sym (top_cut c.self.inside.counts.items xs)
    ∙ ap top c.self.view_is
