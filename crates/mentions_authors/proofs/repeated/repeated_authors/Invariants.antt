use Rattle.std.proofs.Common.{◌≡◌, map, take}
use Rattle.std.specs.List.{enumerate_from}
use Rattle.mentions_authors.specs.Repeated.{against, before_at}
use Rattle.mentions_authors.proofs.repeated.repeated_authors.Given as goal

abbrev pub invariant-loop-k : goal.invariant-loop-k
invariant-loop-k g l =
    l.found.items ≡ map (λ p. against g.N.PartialEq.eq g.P.PartialEq.eq l.rule (before_at l.items p.0) p.1) (take l.k (enumerate_from 0 l.items))
