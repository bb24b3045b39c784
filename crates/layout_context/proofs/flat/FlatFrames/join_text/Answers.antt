-- The last child takes the text, or the text is a child of its own.
use Rattle.std.proofs.Common.{◌≡◌, true, false, drop, length, ap, ◌∙◌, sym, arith}
use Rattle.std.specs.List.{sum}
use Rattle.value_trees.specs.Child.{text}
use Rattle.value_trees.specs.Simplify.{join_last}
use Rattle.value_sources.specs.declared.formatting.Formatted.{Formatted}
use Rattle.layout_context.specs.Cuts.{cut}
use Rattle.layout_context.specs.OpenFrames.{on_top}
use Rattle.layout_context.proofs.CutSteps.{same_height}
use Rattle.layout_context.proofs.OpenSteps.{ends_in, top_is, joined_text_cut, apart_text_cut, done_along}
use Rattle.layout_context.proofs.flat.FlatFrames.join_text.Goals as goal

pub returns-then-ends_in-clause-done : goal.returns-then-ends_in-clause-done
returns-then-ends_in-clause-done c =
    let ns = c.self.inside.counts.items in
    let xs = c.self.inside.children in
    let g : Formatted = record { text = c.args.more.now; formatting = c.args.formatting } in
    let joins : ends_in g.formatting (drop (sum ns) xs) ≡ true = ap (ends_in g.formatting) (sym (top_is ns xs _ _ c.self.view_is c.top.ensures)) ∙ sym c.ends_in.ensures ∙ c.if-ends_in.true in
    done_along c.extend_last.result (cut ns) _ _ _ (joined_text_cut ns xs g joins ∙ ap (on_top (λ cs. join_last cs (text g))) c.self.view_is) c.extend_last.ensures.done

pub returns-then-ends_in-clause-height : goal.returns-then-ends_in-clause-height
returns-then-ends_in-clause-height c = same_height c.self.inside.counts.items _ c.self.inside.children ∙ ap length c.self.view_is

pub returns-clause-done : goal.returns-clause-done
returns-clause-done c =
    let ns = c.self.inside.counts.items in
    let xs = c.self.inside.children in
    let g : Formatted = record { text = c.args.more.now; formatting = c.args.formatting } in
    let apart : ends_in g.formatting (drop (sum ns) xs) ≡ false = ap (ends_in g.formatting) (sym (top_is ns xs _ _ c.self.view_is c.top.ensures)) ∙ sym c.ends_in.ensures ∙ c.if-ends_in.false in
    done_along c.push_child.result (cut ns) _ _ _
    (apart_text_cut ns xs g (omega (arith, c.self.invariant.0, c.self.invariant.1)) apart ∙ ap (on_top (λ cs. join_last cs (text g))) c.self.view_is)
    (rw c.in_ok-text.ensures at c.push_child.ensures.done)

pub returns-clause-height : goal.returns-clause-height
returns-clause-height c = same_height c.self.inside.counts.items _ c.self.inside.children ∙ ap length c.self.view_is
