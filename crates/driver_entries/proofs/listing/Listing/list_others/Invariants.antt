use Rattle.std.proofs.Common.{◌≡◌, length, nat_eq}
use Rattle.std.specs.List.{range_with_len}
use Rattle.driver_entries.specs.Entries.{with_all_new}
use Rattle.driver_entries.specs.ListingView.{IsListing}
use Rattle.driver_entries.proofs.listing.Listing.list_others.Given as goal

abbrev pub invariant-loop-place : goal.invariant-loop-place
invariant-loop-place l = record {
  listed : l.self.order.items ≡ with_all_new nat_eq l.fn.self.order.items (range_with_len 0 l.place);
  count : length l.self.numbers.items ≡ length l.fn.self.numbers.items;
  sound : IsListing l.self;
}
