use Rattle.std.proofs.Common.{◌≡◌, ◌++◌, map, take}
use Rattle.driver_entries.specs.ListingView.{listing_view}
use Rattle.driver_passes.specs.RequestView.{request_view}
use Rattle.mentions_cited.specs.Steps.{handed_at}
use Rattle.mentions_cited.proofs.handed.push_handed.Given as goal

abbrev pub invariant-loop-place : goal.invariant-loop-place
invariant-loop-place g l = l.cites.items ≡ l.fn.cites.items ++ map (handed_at (listing_view l.listing) (request_view l.request)) (take l.place-index l.places)
