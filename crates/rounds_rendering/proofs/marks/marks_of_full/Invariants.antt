use Rattle.std.proofs.Common.{map, take}
use Rattle.driver_entries.specs.TableView.{table_view}
use Rattle.driver_passes.specs.RendersView.{renders_view}
use Rattle.rounds_rendering.proofs.FullMarks.{MarkedSoFar}
use Rattle.rounds_rendering.proofs.marks.marks_of_full.Given as goal

abbrev pub invariant-loop-group : goal.invariant-loop-group
invariant-loop-group g l =
    MarkedSoFar g.T.PartialEq.eq l.dated (renders_view l.cites) (table_view l.table).entries (table_view l.table).places
    (map (λ p. p.items) (take l.group-index l.group-items)) l.marks.items l.marked.items
