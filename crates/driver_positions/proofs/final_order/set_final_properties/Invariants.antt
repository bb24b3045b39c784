use Rattle.std.proofs.Common.{◌≡◌}
use Rattle.std.specs.Prelude.{slice_index_or}
use Rattle.driver_entries.specs.Entries.{place}
use Rattle.driver_entries.specs.TableView.{table_view}
use Rattle.driver_passes.specs.RendersView.{renders_view}
use Rattle.driver_passes.proofs.Halves.{half}
use Rattle.driver_positions.proofs.FinalRenders.{finally_at}
use Rattle.driver_positions.proofs.final_order.set_final_properties.Given as goal

abbrev pub invariant-loop-r : goal.invariant-loop-r
invariant-loop-r g l =
    renders_view l.cites
    ≡ half (finally_at g.T.PartialEq.eq g.P.PartialEq.eq (λ e. slice_index_or l.numbers (place g.T.PartialEq.eq e (table_view l.table).entries) 0) (renders_view l.initial.cites)) l.r
    (renders_view l.initial.cites)
