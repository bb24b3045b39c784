-- The children before the index hold no name and stayed as they were, and the others weren't looked at.
use Rattle.std.proofs.Common.{◌≡◌, ℕ, ◌<◌, ◌≤◌, false, length, get_or}
use Rattle.value_trees.specs.ChildView.{child_view}
use Rattle.value_trees.specs.declared.elem.ElemChild.{ElemChild}
use Rattle.rounds_substitution.specs.Rewriting.{holds_name, name_replaced}
use Rattle.rounds_substitution.proofs.rewriting.+replace.Given as goal

abbrev pub invariant-replace_first_name-loop-i : goal.invariant-replace_first_name-loop-i
invariant-replace_first_name-loop-i l =
    let xs = l.tree-inside.0.items in
    let ys = l.initial.tree-inside.0.items in
    record {
      same_length : length xs ≡ length ys;
      unvisited : (k : ℕ) (d : ElemChild) → l.i ≤ k → get_or xs k d ≡ get_or ys k d;
      visited : (k : ℕ) (d : ElemChild) → k < l.i → child_view (get_or xs k d) ≡ name_replaced l.substitute (child_view (get_or ys k d));
      without : (k : ℕ) (d : ElemChild) → k < l.i → holds_name (child_view (get_or ys k d)) ≡ false;
    }
