-- The children before the index hold no names any more, and the others are as they were.
use Rattle.std.proofs.Common.{◌≡◌, ℕ, ◌<◌, ◌≤◌, length, get_or}
use Rattle.value_trees.specs.ChildView.{child_view}
use Rattle.value_trees.specs.declared.elem.ElemChild.{ElemChild}
use Rattle.rounds_substitution.specs.Rewriting.{child_without_names}
use Rattle.rounds_substitution.proofs.rewriting.+remove.Given as goal

abbrev pub invariant-remove_names-loop-i : goal.invariant-remove_names-loop-i
invariant-remove_names-loop-i l =
    let xs = l.tree-inside.0.items in
    let ys = l.initial.tree-inside.0.items in
    record {
      same_length : length xs ≡ length ys;
      unvisited : (k : ℕ) (d : ElemChild) → l.i ≤ k → get_or xs k d ≡ get_or ys k d;
      visited : (k : ℕ) (d : ElemChild) → k < l.i → child_view (get_or xs k d) ≡ child_without_names (child_view (get_or ys k d));
    }
