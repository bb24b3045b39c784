-- The children before the index are written, and those that are still to be are those up to so many names from there.
use Rattle.std.proofs.Common.{◌≡◌, ℕ, ◌<◌, ◌≤◌, ◌++◌, length, get_or, map, take, drop}
use Rattle.value_trees.specs.ChildView.{child_view}
use Rattle.value_trees.specs.declared.elem.ElemChild.{ElemChild}
use Rattle.rounds_substitution.specs.Rewriting.{name_replaced, up_to_names}
use Rattle.rounds_substitution.proofs.rewriting.replace_names.Given as goal

abbrev pub invariant-loop-i : goal.invariant-loop-i
invariant-loop-i l =
    let xs = l.tree-inside.0.items in
    let ys = l.initial.tree-inside.0.items in
    record {
      same_length : length xs ≡ length ys;
      unvisited : (k : ℕ) (d : ElemChild) → l.i ≤ k → get_or xs k d ≡ get_or ys k d;
      visited : (k : ℕ) (d : ElemChild) → k < l.i → child_view (get_or xs k d) ≡ name_replaced l.substitute (child_view (get_or ys k d));
      counted : up_to_names l.n (map child_view ys) ≡ map child_view (take l.i ys) ++ up_to_names l.left (map child_view (drop l.i ys));
    }
