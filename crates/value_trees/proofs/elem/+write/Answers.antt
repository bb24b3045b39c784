-- Writing: one more child, and a child that is a text, markup or a link.
use Rattle.std.proofs.Common.{arith, sym, subst}
use Rattle.std.specs.Fmt.{WritesInCalls}
use Rattle.std.proofs.Output.{writes_in_calls_append}
use Rattle.std.proofs.Common.{ap, ◌∙◌, refl, true}
use Rattle.value_trees.specs.Tree.{child_plain}
use Rattle.value_trees.specs.ChildView.{child_view}
use Rattle.value_trees.proofs.Trees.{plain-next, write_one}
use Rattle.value_trees.proofs.elem.+write.Goals as goal

pub ElemChildren::write_buf-loop-child-preserved : goal.ElemChildren::write_buf-loop-child-preserved
ElemChildren::write_buf-loop-child-preserved g t c =
    let l = c.loop-child in
    subst (λ bs. WritesInCalls g.W.Write.write_str_gives c.args.w.now bs c.write_buf.new.w)
    (sym (plain-next _ l.child-index c.child-item.result (omega arith) c.child-item.is))
    (writes_in_calls_append _ _ _ _ _ _ l.invariant (c.in_ok-write_buf.ensures (refl {a = true})))

pub ElemChild::write_buf-returns-in-Text : goal.ElemChild::write_buf-returns-in-Text
ElemChild::write_buf-returns-in-Text g t c =
    λ ok. write_one _ _ _ _ _ (c.write_str.ensures.ok ok) (c.as_str.ensures ∙ ap (λ s. child_plain (child_view s)) (sym c.in-Text.is))

pub ElemChild::write_buf-returns-in-Markup : goal.ElemChild::write_buf-returns-in-Markup
ElemChild::write_buf-returns-in-Markup g t c =
    λ ok. write_one _ _ _ _ _ (c.write_str-in-Markup.ensures.ok ok) (c.as_str-in-Markup.ensures ∙ ap (λ s. child_plain (child_view s)) (sym c.in-Markup.is))

pub ElemChild::write_buf-returns-in-Link : goal.ElemChild::write_buf-returns-in-Link
ElemChild::write_buf-returns-in-Link g t c =
    λ ok. write_one _ _ _ _ _ (c.write_str-in-Link.ensures.ok ok) (c.as_str-in-Link.ensures ∙ ap (λ s. child_plain (child_view s)) (sym c.in-Link.is))
