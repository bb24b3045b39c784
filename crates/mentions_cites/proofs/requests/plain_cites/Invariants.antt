use Rattle.std.proofs.Common.{◌≡◌, map, take}
use Rattle.std.specs.List.{zip}
use Rattle.driver_entries.specs.ListingView.{listing_view}
use Rattle.driver_passes.specs.RequestView.{cites_view}
use Rattle.mentions_cites.specs.ByPlaces.{index_at}
use Rattle.mentions_cites.specs.Requests.{located, plain_cite}
use Rattle.mentions_cites.proofs.requests.plain_cites.Given as goal

abbrev pub invariant-loop-k : goal.invariant-loop-k
invariant-loop-k g l =
    map located l.cites.items
    ≡ map (λ p. plain_cite l.mentions l.suffixes (index_at (listing_view l.listing) p.0.1) p.0.0 p.1) (take l.k (zip (zip (cites_view l.items) l.places) l.notes))
