-- A change at the end of all children, where the top frame has some.
use Rattle.std.proofs.Common.{length, ap, ◌∙◌, sym, arith}
use Rattle.layout_context.specs.Cuts.{cut}
use Rattle.layout_context.specs.OpenFrames.{on_last_text, on_top}
use Rattle.layout_context.specs.Steps.{spaced}
use Rattle.layout_context.proofs.CutSteps.{same_height}
use Rattle.layout_context.proofs.OpenSteps.{end_cut, no_end_cut, on_last_text-end, done_along}
use Rattle.layout_context.proofs.flat.FlatFrames.space_last_text.Goals as goal

pub returns-then-self-count-clause-done : goal.returns-then-self-count-clause-done
returns-then-self-count-clause-done c =
    let f = on_last_text spaced in
    sym c.self.view_is ∙ no_end_cut f (on_last_text-end spaced) c.self.inside.counts.items c.self.inside.children (omega (arith, c.self.invariant.0, c.count.ensures, c.if-self-count.true)) ∙ ap (on_top f) c.self.view_is

pub returns-clause-done : goal.returns-clause-done
returns-clause-done c =
    let f = on_last_text spaced in
    let ns = c.self.inside.counts.items in
    done_along c.add_space_to_tree.result (cut ns) _ _ _ (end_cut f (on_last_text-end spaced) ns c.self.inside.children (omega (arith, c.self.invariant.0, c.self.invariant.1, c.count.ensures, c.if-self-count.false)) ∙ ap (on_top f) c.self.view_is) c.add_space_to_tree.ensures.done

pub returns-clause-height : goal.returns-clause-height
returns-clause-height c = same_height c.self.inside.counts.items _ c.self.inside.children ∙ ap length c.self.view_is
