-- The children of the top frame go, and the number of the one below.
use Rattle.std.proofs.Common.{◌≡◌, ◌+◌, take, ap, ◌∙◌, sym}
use Rattle.std.specs.List.{sum}
use Rattle.layout_context.specs.Cuts.{cut}
use Rattle.layout_context.specs.OpenFrames.{below}
use Rattle.layout_context.proofs.CutSteps.{sum_one_more}
use Rattle.layout_context.proofs.OpenSteps.{below_cut}
use Rattle.layout_context.proofs.flat.FlatFrames.discard.Goals as goal

pub returns-in-Some : goal.returns-in-Some
returns-in-Some c =
    let xs = c.self.inside.children in
    let ns = c.pop.new.self.items in
    let start : c.self.inside.start ≡ sum ns + c.in-Some.count = c.self.invariant.0 ∙ ap sum c.in-Some.ensures.items ∙ sum_one_more ns c.in-Some.count in
    ap (cut ns) (c.truncate.ensures ∙ ap (λ n. take n xs) start)
    ∙ below_cut ns c.in-Some.count xs
    ∙ ap (λ ks. below (cut ks xs)) (sym c.in-Some.ensures.items)
    ∙ ap below c.self.view_is
