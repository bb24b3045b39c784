use Rattle.std.proofs.Common.{◌≡◌, map, take}
use Rattle.std.specs.List.{zip}
use Rattle.mentions_arranging.specs.Requests.{requests_view as all_arranged_view}
use Rattle.driver_passes.specs.RendersView.{renders_view}
use Rattle.driver_passes.specs.RequestView.{requests_view}
use Rattle.mentions_cites.specs.Cites.{told_request}
use Rattle.mentions_cites.specs.ToldView.{told_view}
use Rattle.mentions_cites.proofs.cites.told_cites.Given as goal

abbrev pub invariant-loop-k : goal.invariant-loop-k
invariant-loop-k g l =
    renders_view l.cites.by_request.items
    ≡ map (λ p. told_request (told_view l.told) p.0.0 p.0.1 p.1.cites) (take l.k (zip (zip (requests_view l.requests) (map (λ n. n.items) l.notes)) (all_arranged_view l.finals)))
