-- The plain data that a table of entries stands for.
use Rattle.std.specs.Prelude.{map}
use Rattle.driver_entries.specs.Table.{Table}
use Rattle.driver_entries.specs.declared.table.EntryTable.{EntryTable}
use Rattle.driver_passes.specs.RequestView.{entries_view}

abbrev pub table_view : {T : Type 0} → EntryTable T → Table T
table_view t = record {
  entries = entries_view t.entries.keys;
  places = map (λ ps. ps.items) t.places.items;
}
