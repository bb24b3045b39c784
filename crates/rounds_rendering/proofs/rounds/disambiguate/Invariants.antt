use Rattle.driver_entries.specs.TableView.{table_view}
use Rattle.driver_passes.specs.RendersView.{renders_view}
use Rattle.driver_writers.specs.Desk.{desk}
use Rattle.rounds_rendering.specs.CitesOfTable.{AreCitesOfTable}
use Rattle.rounds_rendering.proofs.InMode.{InMode, left_for}
use Rattle.rounds_rendering.proofs.rounds.disambiguate.Given as goal

abbrev pub invariant-loop-alloc : goal.invariant-loop-alloc
invariant-loop-alloc g l = record {
  cites : AreCitesOfTable g.T.PartialEq.eq (table_view l.table) (renders_view l.cites);
  rounds : (way : g.W.CiteWriter.Way) → g.W.CiteWriter.agrees l.writer way → InMode l.mode g.T.PartialEq.eq g.T.EntryLike.answers (renders_view l.initial.cites) (table_view l.table).entries (desk (g.W.CiteWriter.state l.fn.writer way) l.fn.counter) g.met.T.Eq.laws
      (renders_view l.cites) l.rounds.states.items l.rounds.marked (desk (g.W.CiteWriter.state l.writer way) l.counter);
  agreed : (way : g.W.CiteWriter.Way) → g.W.CiteWriter.agrees l.writer way → g.W.CiteWriter.agrees l.fn.writer way;
}

abbrev pub decreases-loop-alloc : goal.decreases-loop-alloc
decreases-loop-alloc g l = left_for l.mode (renders_view l.initial.cites) l.rounds.marked (renders_view l.cites)
