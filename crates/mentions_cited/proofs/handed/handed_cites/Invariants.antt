use Rattle.std.proofs.Common.{◌≡◌, take}
use Rattle.driver_entries.specs.ListingView.{listing_view}
use Rattle.driver_entries.specs.TableView.{table_view}
use Rattle.driver_passes.specs.RequestView.{requests_view}
use Rattle.mentions_cited.specs.Steps.{handed_by}
use Rattle.mentions_cited.proofs.handed.handed_cites.Given as goal

abbrev pub invariant-loop-k : goal.invariant-loop-k
invariant-loop-k g l = l.cites.items ≡ handed_by g.T.PartialEq.eq (table_view l.table).entries (listing_view l.listing) (requests_view (take l.k l.requests))
