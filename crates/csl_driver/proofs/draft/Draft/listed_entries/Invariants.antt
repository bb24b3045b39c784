use Rattle.std.proofs.Common.{◌≡◌, map, take}
use Rattle.std.specs.Prelude.{slice_get}
use Rattle.std.specs.List.{filter_map}
use Rattle.driver_entries.specs.TableView.{table_view}
use Rattle.csl_driver.proofs.draft.Draft.listed_entries.Given as goal

abbrev pub invariant-loop-place : goal.invariant-loop-place
invariant-loop-place g l =
    map (λ e. e.now) l.entries.items ≡ filter_map (slice_get (table_view l.self.cited.now.table).entries) (take l.place-index l.order)
