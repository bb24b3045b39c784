use Rattle.std.proofs.Common.{◌≡◌, map, take}
use Rattle.driver_entries.specs.Entries.{place}
use Rattle.driver_entries.specs.TableView.{table_view}
use Rattle.driver_passes.specs.RendersView.{renders_view}
use Rattle.driver_positions.specs.FinalProperties.{cited_finally}
use Rattle.driver_positions.proofs.final_order.places_finally.Given as goal

abbrev pub invariant-loop-r : goal.invariant-loop-r
invariant-loop-r g l = l.all.items ≡ map (λ e. place g.T.PartialEq.eq e (table_view l.table).entries) (cited_finally (renders_view (take l.r l.cites)))
