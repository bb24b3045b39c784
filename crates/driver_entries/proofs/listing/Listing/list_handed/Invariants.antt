use Rattle.std.proofs.Common.{◌≡◌, length, nat_eq, take}
use Rattle.std.specs.List.{filter_map, position}
use Rattle.driver_entries.specs.Entries.{with_all_new}
use Rattle.driver_entries.specs.ListingView.{IsListing}
use Rattle.driver_entries.specs.TableView.{table_view}
use Rattle.driver_passes.specs.RequestView.{entries_view}
use Rattle.driver_entries.proofs.listing.Listing.list_handed.Given as goal

abbrev pub invariant-loop-entry : goal.invariant-loop-entry
invariant-loop-entry g l = record {
  listed : l.self.order.items
      ≡ with_all_new nat_eq l.fn.self.order.items (filter_map (λ e. position (g.T.PartialEq.eq e) (table_view l.table).entries) (entries_view (take l.entry-index l.order)));
  count : length l.self.numbers.items ≡ length l.fn.self.numbers.items;
  sound : IsListing l.self;
}
