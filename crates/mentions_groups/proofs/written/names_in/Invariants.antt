use Rattle.std.proofs.Common.{◌≡◌, map, take}
use Rattle.std.specs.List.{zip}
use Rattle.mentions_groups.specs.Written.{named_as}
use Rattle.mentions_groups.proofs.written.names_in.Given as goal

abbrev pub invariant-loop-k : goal.invariant-loop-k
invariant-loop-k l = l.names.items ≡ map named_as (take l.k (zip l.persons l.forms))
