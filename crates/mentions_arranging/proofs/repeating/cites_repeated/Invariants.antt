use Rattle.std.proofs.Common.{◌≡◌, map, take}
use Rattle.std.specs.Prelude.{zip}
use Rattle.mentions_arranging.specs.Repeating.{all_repeated}
use Rattle.mentions_arranging.specs.Requests.{requests_view}
use Rattle.mentions_arranging.proofs.repeating.cites_repeated.Given as goal

abbrev pub invariant-loop-k : goal.invariant-loop-k
invariant-loop-k g l = map (λ r. r.items) l.found.items ≡ map all_repeated (take l.k (zip (requests_view l.requests) (map (λ p. p.items) l.positions.items)))
