use Rattle.std.proofs.Common.{◌≡◌, map, take}
use Rattle.std.specs.Prelude.{zip}
use Rattle.mentions_arranging.specs.Requests.{requests_view}
use Rattle.mentions_arranging.proofs.Walking.{arranged_pair}
use Rattle.mentions_arranging.proofs.arranged.arranged_cites.Given as goal

abbrev pub invariant-loop-k : goal.invariant-loop-k
invariant-loop-k g l =
    map (λ a. a.items) l.arranged.items ≡ map (arranged_pair l.numbers) (take l.k (zip (requests_view l.requests) (map (λ p. p.items) l.positions.items)))
