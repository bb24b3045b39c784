use Rattle.std.proofs.Common.{◌≡◌, ◌++◌, drop, filter, map}
use Rattle.driver_passes.specs.RequestView.{cite_view, request_view}
use Rattle.mentions_cited.specs.HomeView.{homes_view}
use Rattle.mentions_cited.specs.Homes.{standing_in}
use Rattle.mentions_cited.specs.Steps.{is_first_cite}
use Rattle.mentions_cited.proofs.Gathering.{standing_from}
use Rattle.mentions_cited.proofs.homes.push_first_cites.Given as goal

abbrev pub invariant-loop-place : goal.invariant-loop-place
invariant-loop-place g l =
    let r = request_view l.request.request.now in
    homes_view l.firsts.items ++ filter is_first_cite (standing_from r l.place (map cite_view (drop l.place l.request.request.now.items.items)) (drop l.place l.notes))
    ≡ homes_view l.fn.firsts.items ++ filter is_first_cite (standing_in r l.notes)
