use Rattle.std.proofs.Common.{◌≡◌, map, take}
use Rattle.std.specs.List.{enumerate_from}
use Rattle.std.specs.Option.{option_and_then}
use Rattle.mentions_notes.specs.Repeats.{before_at, positions_behind, repeatable}
use Rattle.mentions_notes.specs.Requests.{requests_view}
use Rattle.mentions_notes.proofs.repeats.positions_of.Given as goal

abbrev pub invariant-loop-k : goal.invariant-loop-k
invariant-loop-k g l =
    let requests = requests_view l.requests in
    map (λ p. p.items) l.found.items
    ≡ map (λ p. positions_behind g.L.PartialEq.eq (option_and_then (repeatable requests p.1.note) (before_at requests p.0)) p.1.cites) (take l.k (enumerate_from 0 requests))
