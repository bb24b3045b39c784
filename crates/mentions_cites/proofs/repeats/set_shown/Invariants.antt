use Rattle.std.proofs.Common.{◌≡◌, map, take}
use Rattle.mentions_arranging.specs.Requests.{requests_view}
use Rattle.mentions_tables.specs.Steps.{all_changed}
use Rattle.mentions_cites.specs.Repeats.{cites_with_shown}
use Rattle.mentions_cites.proofs.repeats.set_shown.Given as goal

abbrev pub invariant-loop-k : goal.invariant-loop-k
invariant-loop-k g l = requests_view l.requests ≡ all_changed cites_with_shown (take l.k (map (λ s. s.items) l.shown)) (requests_view l.initial.requests)
