-- What two lists have in common is what was passed, and what is left has in common.
use Rattle.std.proofs.Common.{◌≡◌, ◌+◌, ◌-◌, length, map, drop}
use Rattle.std.specs.List.{common_prefix_len}
use Rattle.value_trees.specs.SameElem.{same_elem}
use Rattle.rounds_substitution.proofs.changes.prefix_in_common.Given as goal

abbrev pub invariant-loop-n : goal.invariant-loop-n
invariant-loop-n l =
    l.n + common_prefix_len same_elem (map (λ e. e.now) (drop l.n l.kept)) (map (λ e. e.now) (drop l.n l.own))
    ≡ common_prefix_len same_elem (map (λ e. e.now) l.kept) (map (λ e. e.now) l.own)

abbrev pub decreases-loop-n : goal.decreases-loop-n
decreases-loop-n l = length l.kept - l.n
