use Rattle.std.proofs.Common.{◌≡◌, ◌++◌, filter, map}
use Rattle.driver_passes.specs.RequestView.{request_view, requests_view}
use Rattle.mentions_cited.specs.HomeView.{homes_view}
use Rattle.mentions_cited.specs.Homes.{standing_cites}
use Rattle.mentions_cited.specs.Steps.{is_first_cite}
use Rattle.mentions_cited.proofs.Gathering.{standing_rest}
use Rattle.mentions_cited.proofs.homes.first_cites.Given as goal

abbrev pub invariant-loop-k : goal.invariant-loop-k
invariant-loop-k g l =
    homes_view l.firsts.items ++ filter is_first_cite (standing_rest request_view (λ n. n.items) l.requests.requests.now l.notes l.k)
    ≡ filter is_first_cite (standing_cites (requests_view l.requests.requests.now) (map (λ n. n.items) l.notes))
