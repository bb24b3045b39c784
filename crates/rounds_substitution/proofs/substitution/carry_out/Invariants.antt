-- The items before the index are changed, the others are as they were, and each has its key.
use Rattle.std.proofs.Common.{◌≡◌, ℕ, ◌<◌, ◌≤◌, None, length, get_or}
use Rattle.rounds_substitution.specs.Changes.{tree_changed}
use Rattle.rounds_substitution.proofs.substitution.carry_out.Given as goal

abbrev pub invariant-loop-i : goal.invariant-loop-i
invariant-loop-i l =
    let xs = l.items in
    let ys = l.initial.items in
    record {
      same_length : length xs ≡ length ys;
      unvisited : (k : ℕ) (d : _) → l.i ≤ k → get_or xs k d ≡ get_or ys k d;
      visited : (k : ℕ) (d : _) → k < l.i → (get_or xs k d).0 ≡ tree_changed l.text (get_or l.changes k None) (get_or ys k d).0;
      keys : (k : ℕ) (d : _) → (get_or xs k d).1 ≡ (get_or ys k d).1;
    }
