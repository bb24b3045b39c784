use Rattle.std.proofs.Common.{◌≡◌, fold, take}
use Rattle.driver_entries.specs.TableView.{table_view}
use Rattle.driver_passes.specs.RendersView.{renders_view}
use Rattle.driver_positions.specs.FinalSteps.{with_first}
use Rattle.driver_positions.proofs.FinalFirsts.{stands}
use Rattle.driver_positions.proofs.final_order.first_items.Given as goal

abbrev pub invariant-loop-r : goal.invariant-loop-r
invariant-loop-r g l =
    l.firsts.items
    ≡ fold with_first l.initial.firsts.items (stands g.T.PartialEq.eq g.met.T.Eq.laws (table_view l.table).entries (renders_view (take l.r l.cites)))
