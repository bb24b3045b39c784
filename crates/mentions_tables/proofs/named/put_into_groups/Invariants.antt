use Rattle.std.proofs.Common.{◌≡◌, take}
use Rattle.mentions_tables.specs.Steps.{all_changed, in_group}
use Rattle.mentions_tables.proofs.named.put_into_groups.Given as goal

abbrev pub invariant-loop-k : goal.invariant-loop-k
invariant-loop-k l = l.named ≡ all_changed in_group (take l.k l.groups) l.initial.named
