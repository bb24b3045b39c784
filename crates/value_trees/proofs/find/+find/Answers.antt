-- The search for an element: a child that has none, one that has one, and an element itself.
use Rattle.std.proofs.Common.{◌≡◌, map, arith, ap, sym, ◌∙◌, subst, refl, option_map, None, Some, false}
use Rattle.std.proofs.lemmas.List.{drop_all}
use Rattle.std.proofs.lemmas.List.Elements.{All-nil}
use Rattle.value_trees.specs.Tree.{find_elem, child_find}
use Rattle.value_trees.specs.ChildView.{child_view}
use Rattle.value_trees.specs.Elements.{elements, child_elements, Answered, IsFirstAccepted}
use Rattle.value_trees.proofs.Trees.{find_past, find_found, find_self, find_skip}
use Rattle.value_trees.proofs.Accepted.{child_refused, child_accepted, elem_accepted, elem_refused}
use Rattle.value_trees.proofs.find.+find.Given as given
use Rattle.value_trees.proofs.find.+find.Goals as goal

pub find_in_tree-loop-child-preserved : goal.find_in_tree-loop-child-preserved
find_in_tree-loop-child-preserved g t c =
    let l = c.loop-child in
    let gives = given.F-post g c.args.test.now in
    let answer = ap (option_map (λ e. e.now)) c.in_default.is in (
      λ p k.
          let none : child_find p (child_view c.child-item.result) ≡ None = sym (c.find_in_child.ensures.found p k) ∙ answer in
          sym (find_past p _ l.child-index c.child-item.result (omega arith) c.child-item.is none) ∙ l.invariant.0 p k,
      λ r k. l.invariant.1 r (child_refused gives _ l.child-index c.child-item.result (omega arith) c.child-item.is (subst (IsFirstAccepted gives _) answer c.find_in_child.ensures.accepted) r k),
    )

pub find_in_tree-returns-in-Some : goal.find_in_tree-returns-in-Some
find_in_tree-returns-in-Some g t c =
    let l = c.loop-child in
    let whole = ap (map child_view) c.deref-child-items.ensures.value ∙ c.tree.view_is in
    let gives = given.F-post g c.args.test.now in
    let answer = ap (option_map (λ e. e.now)) c.in-Some.is in
    record {
      found = λ p k.
          let some : child_find p (child_view c.child-item.result) ≡ Some c.in-Some.elem.now = sym (c.find_in_child.ensures.found p k) ∙ answer in
          sym (find_found p _ l.child-index c.child-item.result _ (omega arith) c.child-item.is some) ∙ l.invariant.0 p k ∙ ap (find_elem p) whole;
      accepted =
          let here = child_accepted gives _ l.child-index c.child-item.result (omega arith) c.child-item.is c.in-Some.elem.now (subst (IsFirstAccepted gives _) answer c.find_in_child.ensures.accepted) in
          subst (λ cs. IsFirstAccepted gives (elements cs) (Some c.in-Some.elem.now)) whole (l.invariant.1 (Some c.in-Some.elem.now) here);
    }

pub find_in_child-returns-then-test : goal.find_in_child-returns-then-test
find_in_child-returns-then-test g t c =
    let gives = given.F-post g c.args.test.now in
    record {
      found = λ p k. sym (ap (λ x. child_find p (child_view x)) c.in-Elem.is ∙ find_self p c.in-Elem.elem (sym (k _ _ c.test.ensures) ∙ c.if-test.true));
      accepted =
          let own = elem_accepted gives c.in-Elem.elem (_, refl, subst (gives _) c.if-test.true c.test.ensures) in
          subst (λ x. IsFirstAccepted gives (child_elements (child_view x)) (Some c.in-Elem.elem)) (sym c.in-Elem.is) own;
    }

pub find_in_child-returns-else-test : goal.find_in_child-returns-else-test
find_in_child-returns-else-test g t c =
    let gives = given.F-post g c.args.test.now in
    record {
      found = λ p k. c.find_in_tree.ensures.found p k ∙ sym (ap (λ x. child_find p (child_view x)) c.in-Elem.is ∙ find_skip p c.in-Elem.elem (sym (k _ _ c.test.ensures) ∙ c.if-test.false));
      accepted =
          let inside = elem_refused gives c.in-Elem.elem _ (_, refl, subst (gives _) c.if-test.false c.test.ensures) c.find_in_tree.ensures.accepted in
          subst (λ x. IsFirstAccepted gives (child_elements (child_view x)) (option_map (λ e. e.now) c.find_in_tree.result)) (sym c.in-Elem.is) inside;
    }

pub find_in_tree-returns-clause-accepted : goal.find_in_tree-returns-clause-accepted
find_in_tree-returns-clause-accepted g t c =
    let l = c.loop-child in
    let gives = given.F-post g c.args.test.now in
    let whole = ap (map child_view) c.deref-child-items.ensures.value ∙ c.tree.view_is in
    let none = ap (λ xs. elements (map child_view xs)) (drop_all l.child-index c.deref-child-items.result.now (omega arith)) in
    subst (λ cs. IsFirstAccepted gives (elements cs) None) whole (l.invariant.1 None (subst (λ es. IsFirstAccepted gives es None) (sym none) (All-nil (Answered gives false))))
