-- All children have been gone through.
use Rattle.std.proofs.Common.{◌++◌, ◌∙◌, ap, sym, map, string_bytes, append_assoc, arith, lit<}
use Rattle.serde_json.specs.Data.{array}
use Rattle.serde_json.specs.Written.{compact_text}
use Rattle.value_trees.specs.Child.{kids_of}
use Rattle.value_trees.specs.ChildView.{child_view}
use Rattle.write_json.specs.TreeData.{child_data, kids_data, children_data}
use Rattle.write_json.proofs.Closing.{closed}
use Rattle.write_json.proofs.Items.{rest_text-end}
use Rattle.write_json.proofs.Kids.{kids_items}
use Rattle.write_json.proofs.Objects.{element_text}
use Rattle.write_json.proofs.trees.+write.Goals as goal

pub write_children-returns : goal.write_children-returns
write_children-returns t c =
    let items = c.deref-child-items.result.now in
    let whole = ap (map child_view) c.deref-child-items.ensures.value ∙ c.children.view_is in
    closed c.push-2.result _ _ _ _ (lit< tt) c.push-2.ensures.bytes
    (ap (λ s. string_bytes c.loop-child.out ++ s) (sym (rest_text-end (λ x. child_data (child_view x)) c.loop-child.later items c.loop-child.child-index (omega arith)))
    ∙ c.loop-child.invariant
    ∙ ap (λ ds. string_bytes c.args.out.now ++ compact_text (array ds)) (kids_items items ∙ ap (λ cs. kids_data (kids_of cs)) whole))

pub write_element-returns : goal.write_element-returns
write_element-returns t c =
    let e = c.args.element.now in
    closed c.push.result _ _ _ _ (lit< tt) c.push.ensures.bytes
    (rw (c.in_ok-write_optional_meta.ensures, c.in_ok-write_display.ensures, c.in_ok-write_children.ensures, c.in_ok-push_str.ensures.bytes, element_text (children_data e.children) e.display e.meta) (simp append_assoc))
