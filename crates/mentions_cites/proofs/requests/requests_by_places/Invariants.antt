use Rattle.std.proofs.Common.{◌≡◌, map, take}
use Rattle.std.specs.List.{zip}
use Rattle.mentions_arranging.specs.Requests.{requests_view as all_arranged_view}
use Rattle.driver_entries.specs.ListingView.{listing_view}
use Rattle.driver_passes.specs.RequestView.{requests_view}
use Rattle.mentions_cites.specs.ByPlaces.{plain_request_at}
use Rattle.mentions_cites.specs.Requests.{located_request}
use Rattle.mentions_cites.proofs.requests.requests_by_places.Given as goal

abbrev pub invariant-loop-k : goal.invariant-loop-k
invariant-loop-k g l =
    map located_request (all_arranged_view l.found.items)
    ≡ map (λ p. plain_request_at l.mentions l.suffixes (listing_view l.listing) p.0.0 p.0.1 p.1)
    (take l.k (zip (zip (requests_view l.requests) (map (λ p. p.items) l.places)) (map (λ n. n.items) l.notes)))
