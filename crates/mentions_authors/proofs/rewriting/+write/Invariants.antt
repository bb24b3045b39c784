-- The children before the index are written, those from it on are as they were, and so many names are left for them.
use Rattle.std.proofs.Common.{◌≡◌, ℕ, ◌-◌, ◌≤◌, ◌++◌, length, get_or, map, take, drop}
use Rattle.value_trees.specs.ChildView.{child_view}
use Rattle.value_trees.specs.declared.elem.ElemChild.{ElemChild}
use Rattle.mentions_authors.specs.Names.{names_within}
use Rattle.mentions_authors.specs.Substitution.{names_written}
use Rattle.mentions_authors.proofs.rewriting.+write.Given as goal

abbrev pub invariant-write_names-loop-i : goal.invariant-write_names-loop-i
invariant-write_names-loop-i l =
    let xs = l.tree-inside.0.items in
    let ys = l.initial.tree-inside.0.items in
    let rest = map child_view (drop l.i ys) in
    record {
      same_length : length xs ≡ length ys;
      unvisited : (k : ℕ) (d : ElemChild) → l.i ≤ k → get_or xs k d ≡ get_or ys k d;
      left : l.left - length (names_within rest) ≡ l.count - length (names_within (map child_view ys));
      written : map child_view (take l.i xs) ++ names_written l.substitute l.left rest ≡ names_written l.substitute l.count (map child_view ys);
    }
