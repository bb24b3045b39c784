use Rattle.std.proofs.Common.{◌≡◌, map, take}
use Rattle.std.specs.Prelude.{zip}
use Rattle.mentions_arranging.specs.Repeating.{first_repeated}
use Rattle.mentions_arranging.specs.Requests.{requests_view}
use Rattle.mentions_arranging.proofs.repeating.firsts_repeated.Given as goal

abbrev pub invariant-loop-k : goal.invariant-loop-k
invariant-loop-k g l = l.found.items ≡ map first_repeated (take l.k (zip (requests_view l.requests) (map (λ p. p.items) l.positions.items)))
