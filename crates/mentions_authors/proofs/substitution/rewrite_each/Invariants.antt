-- The items before the index are changed, the others are as they were, and each has its key.
use Rattle.std.proofs.Common.{◌≡◌, ℕ, ◌<◌, ◌≤◌, length, get_or}
use Rattle.mentions_authors.specs.Substitution.{tree_substituted}
use Rattle.mentions_authors.specs.declared.repeated.Substituted.{Substituted}
use Rattle.mentions_authors.proofs.substitution.rewrite_each.Given as goal

abbrev pub invariant-loop-i : goal.invariant-loop-i
invariant-loop-i l =
    let xs = l.items in
    let ys = l.initial.items in
    record {
      same_length : length xs ≡ length ys;
      unvisited : (k : ℕ) (d : _) → l.i ≤ k → get_or xs k d ≡ get_or ys k d;
      visited : (k : ℕ) (d : _) → k < l.i → (get_or xs k d).0 ≡ tree_substituted l.substitute (get_or l.told k Substituted.Nothing) (get_or ys k d).0;
      keys : (k : ℕ) (d : _) → (get_or xs k d).1 ≡ (get_or ys k d).1;
    }
