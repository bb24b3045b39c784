use Rattle.std.proofs.Common.{◌≡◌, map}
use Rattle.std.specs.List.{range_with_len}
use Rattle.driver_entries.specs.ListingView.{listing_view}
use Rattle.csl_driver.specs.Cited.{listed_number}
use Rattle.csl_driver.proofs.cited.Cited.numbers.Given as goal

abbrev pub invariant-loop-place : goal.invariant-loop-place
invariant-loop-place g l = l.numbers.items ≡ map (listed_number (listing_view l.listing) l.self.offset) (range_with_len 0 l.place)
