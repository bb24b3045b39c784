use Rattle.std.proofs.Common.{◌≡◌, take}
use Rattle.driver_entries.specs.Entries.{with_all_new}
use Rattle.driver_entries.specs.Table.{places_in}
use Rattle.driver_passes.specs.Request.{entries_of}
use Rattle.driver_passes.specs.RequestView.{cites_view, entries_view}
use Rattle.driver_entries.proofs.table.place_items.Given as goal

abbrev pub invariant-loop-item : goal.invariant-loop-item
invariant-loop-item g l = record {
  added : entries_view l.entries.keys
      ≡ with_all_new g.T.PartialEq.eq (entries_view l.fn.entries.keys) (entries_of (cites_view (take l.item-index l.items)));
  placed : l.places.items
      ≡ places_in g.T.PartialEq.eq (entries_view l.entries.keys) (cites_view (take l.item-index l.items));
}
