-- The last text, from the last child.
use Rattle.std.proofs.Common.{map, ap, sym, ◌∙◌}
use Rattle.std.proofs.Common.{option_and_then, option_copied}
use Rattle.value_trees.specs.Tree.{child_last_text}
use Rattle.value_trees.specs.ChildView.{child_view}
use Rattle.value_trees.proofs.Trees.{last_text-of}
use Rattle.value_trees.proofs.elem.+last_text.Goals as goal

pub ElemChildren::last_text-returns : goal.ElemChildren::last_text-returns
ElemChildren::last_text-returns t c =
    let whole = last_text-of _ _ _ (ap (map child_view) c.deref.ensures.value ∙ c.self.view_is) c.last.ensures.value in
    c.last_text.ensures ∙ sym (whole ∙ ap (λ r. option_and_then (λ x. child_last_text (child_view x)) (option_copied r)) c.in_ok-last.was)
