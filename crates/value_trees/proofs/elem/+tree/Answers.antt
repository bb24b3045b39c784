-- Equality: another length, another child, one more that is the same, and all the same.
use Rattle.std.proofs.Common.{arith, sym, ◌∙◌, true≢false}
use Rattle.value_trees.proofs.EqualTrees.{child_Decides}
use Rattle.value_trees.proofs.Compare.{other_length, other_child, all_same, same_next}
use Rattle.value_trees.proofs.elem.+tree.Goals as goal

pub ElemChildrenPartialEq::eq-returns-then-len : goal.ElemChildrenPartialEq::eq-returns-then-len
ElemChildrenPartialEq::eq-returns-then-len t c =
    other_length _ _ _ _ c.self.view_is c.other.view_is (λ e. omega (arith, e))

pub ElemChildrenPartialEq::eq-returns-then-not-eq : goal.ElemChildrenPartialEq::eq-returns-then-not-eq
ElemChildrenPartialEq::eq-returns-then-not-eq t c =
    let d = child_Decides c.index.result.now c.index-in-loop-i.result.now in
    other_child _ _ _ _ c.self.view_is c.other.view_is c.loop-i.i c.index.result.now c.index-in-loop-i.result.now (omega arith) c.index.ensures c.index-in-loop-i.ensures
    (λ p. true≢false (sym (d.1 p) ∙ sym c.eq.ensures ∙ c.if-not-eq.true))

pub ElemChildrenPartialEq::eq-loop-i-preserved : goal.ElemChildrenPartialEq::eq-loop-i-preserved
ElemChildrenPartialEq::eq-loop-i-preserved t c =
    let d = child_Decides c.index.result.now c.index-in-loop-i.result.now in
    same_next _ _ c.loop-i.i c.index.result.now c.index-in-loop-i.result.now (omega arith) (omega arith) c.index.ensures c.index-in-loop-i.ensures
    (d.0 (sym c.eq.ensures ∙ c.if-not-eq.false)) c.loop-i.invariant

pub ElemChildrenPartialEq::eq-returns : goal.ElemChildrenPartialEq::eq-returns
ElemChildrenPartialEq::eq-returns t c =
    all_same _ _ _ _ c.self.view_is c.other.view_is c.loop-i.i (omega arith) (omega arith) c.loop-i.invariant
