use Rattle.std.proofs.Common.{◌≡◌, length, nat_eq, take}
use Rattle.driver_entries.specs.Entries.{with_all_new}
use Rattle.driver_entries.specs.ListingView.{IsListing}
use Rattle.driver_entries.proofs.listing.Listing.list_places.Given as goal

abbrev pub invariant-loop-place : goal.invariant-loop-place
invariant-loop-place l = record {
  listed : l.self.order.items ≡ with_all_new nat_eq l.fn.self.order.items (take l.place-index l.places);
  count : length l.self.numbers.items ≡ length l.fn.self.numbers.items;
  sound : IsListing l.self;
}
