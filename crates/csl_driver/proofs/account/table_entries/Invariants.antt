use Rattle.std.proofs.Common.{◌≡◌, map, take}
use Rattle.driver_entries.specs.TableView.{table_view}
use Rattle.csl_driver.proofs.account.table_entries.Given as goal

abbrev pub invariant-loop-place : goal.invariant-loop-place
invariant-loop-place g l = map (λ e. e.now) l.entries.items ≡ take l.place (table_view l.table).entries
