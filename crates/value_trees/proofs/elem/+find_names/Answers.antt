-- The search for names: a child that has none, one that has some, and an element with names.
use Rattle.std.proofs.Common.{◌≡◌, map, arith, ap, sym, ◌∙◌, option_map, None, Some}
use Rattle.value_trees.specs.Tree.{find_elem, has_names, child_find}
use Rattle.value_trees.specs.ChildView.{child_view}
use Rattle.value_trees.proofs.Trees.{find_past, find_found, find_self}
use Rattle.value_trees.proofs.elem.+find_names.Goals as goal

pub ElemChildren::find_names-loop-child-preserved : goal.ElemChildren::find_names-loop-child-preserved
ElemChildren::find_names-loop-child-preserved t c =
    let l = c.loop-child in
    let none : child_find has_names (child_view c.child-item.result) ≡ None = sym c.find_names.ensures ∙ ap (option_map (λ e. e.now)) c.in_default.is in
    sym (find_past has_names _ l.child-index c.child-item.result (omega arith) c.child-item.is none) ∙ l.invariant

pub ElemChildren::find_names-returns-in-Some : goal.ElemChildren::find_names-returns-in-Some
ElemChildren::find_names-returns-in-Some t c =
    let l = c.loop-child in
    let whole = ap (map child_view) c.deref-child-items.ensures.value ∙ c.self.view_is in
    let some : child_find has_names (child_view c.child-item.result) ≡ Some c.in-Some.elem.now = sym c.find_names.ensures ∙ ap (option_map (λ e. e.now)) c.in-Some.is in
    sym (find_found has_names _ l.child-index c.child-item.result _ (omega arith) c.child-item.is some) ∙ l.invariant ∙ ap (find_elem has_names) whole

pub ElemChild::find_names-returns-then-has_names : goal.ElemChild::find_names-returns-then-has_names
ElemChild::find_names-returns-then-has_names t c =
    sym (ap (λ x. child_find has_names (child_view x)) c.in-Elem.is ∙ find_self has_names c.in-Elem.e (sym c.has_names.ensures ∙ c.if-has_names.true))
