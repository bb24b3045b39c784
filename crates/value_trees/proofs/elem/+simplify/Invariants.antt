-- Joining at every depth: the children before the index are simple, and the others are as they were.
use Rattle.std.proofs.Common.{◌≡◌, ℕ, ◌<◌, ◌≤◌, length, get_or}
use Rattle.value_trees.specs.ChildView.{child_view}
use Rattle.value_trees.specs.Simplify.{child_simple}
use Rattle.value_trees.specs.declared.elem.ElemChild.{ElemChild}
use Rattle.value_trees.proofs.elem.+simplify.Given as goal

abbrev pub invariant-ElemChildren::simplify_children-loop-i : goal.invariant-ElemChildren::simplify_children-loop-i
invariant-ElemChildren::simplify_children-loop-i l =
    let xs = l.self-inside.0.items in
    let ys = l.initial.self-inside.0.items in
    record {
      same_length : length xs ≡ length ys;
      unvisited : (k : ℕ) (d : ElemChild) → l.i ≤ k → get_or xs k d ≡ get_or ys k d;
      visited : (k : ℕ) (d : ElemChild) → k < l.i → child_view (get_or xs k d) ≡ child_simple (child_view (get_or ys k d));
    }
