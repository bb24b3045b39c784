-- A number that takes all that the top frame has.
use Rattle.std.proofs.Common.{◌≡◌, ◌++◌, ◌∷◌, ◌-◌, ◌+◌, [], arith, ap, ◌∙◌, length}
use Rattle.std.specs.List.{sum}
use Rattle.layout_context.specs.Cuts.{cut}
use Rattle.layout_context.proofs.CutSteps.{cut_at_end}
use Rattle.layout_context.proofs.flat.FlatFrames.open.Goals as goal

pub returns-clause-opened : goal.returns-clause-opened
returns-clause-opened c =
    let ns = c.self.inside.counts.items in
    let xs = c.self.inside.children in
    let m = c.count-end.result - c.self.inside.start in
    let all : sum ns + m ≡ length xs = omega (arith, c.self.invariant.0, c.self.invariant.1, c.count-end.ensures) in
    ap (λ ks. cut ks xs) c.in_ok-push.ensures.items ∙ cut_at_end ns m xs all ∙ ap (λ F. F ++ [] ∷ []) c.self.view_is
