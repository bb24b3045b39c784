use Rattle.std.proofs.Common.{◌≡◌, [], map, take}
use Rattle.driver_entries.specs.Entries.{with_all_new}
use Rattle.driver_entries.specs.Table.{places_in}
use Rattle.driver_passes.specs.Request.{cited}
use Rattle.driver_passes.specs.RequestView.{entries_view, requests_view}
use Rattle.driver_entries.proofs.table.EntryTable.of_requests.Given as goal

abbrev pub invariant-loop-request : goal.invariant-loop-request
invariant-loop-request g l = record {
  added : entries_view l.entries.keys
      ≡ with_all_new g.T.PartialEq.eq [] (cited (requests_view (take l.request-index l.requests)));
  placed : map (λ ps. ps.items) l.places.items
      ≡ map (λ r. places_in g.T.PartialEq.eq (entries_view l.entries.keys) r.cites) (requests_view (take l.request-index l.requests));
}
