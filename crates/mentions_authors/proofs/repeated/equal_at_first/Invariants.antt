-- What two lists have in common is what was passed, and what is left has in common.
use Rattle.std.proofs.Common.{◌≡◌, ◌+◌, ◌-◌, length, drop}
use Rattle.std.specs.List.{common_prefix_len}
use Rattle.mentions_authors.proofs.repeated.equal_at_first.Given as goal

abbrev pub invariant-loop-n : goal.invariant-loop-n
invariant-loop-n g l =
    l.n + common_prefix_len g.N.PartialEq.eq (drop l.n l.before) (drop l.n l.own) ≡ common_prefix_len g.N.PartialEq.eq l.before l.own

abbrev pub decreases-loop-n : goal.decreases-loop-n
decreases-loop-n g l = length l.before - l.n
