-- The number of the frame below the top goes.
use Rattle.std.proofs.Common.{None, ap, ◌∙◌, sym}
use Rattle.layout_context.specs.Cuts.{cut}
use Rattle.layout_context.specs.OpenFrames.{committed}
use Rattle.layout_context.proofs.OpenSteps.{joined_cut}
use Rattle.layout_context.proofs.flat.FlatFrames.join_top.Goals as goal

pub returns-in-Some : goal.returns-in-Some
returns-in-Some c =
    let xs = c.self.inside.children in
    joined_cut c.pop.new.self.items c.in-Some.count xs
    ∙ ap (λ ns. committed None None (cut ns xs)) (sym c.in-Some.ensures.items)
    ∙ ap (committed None None) c.self.view_is
