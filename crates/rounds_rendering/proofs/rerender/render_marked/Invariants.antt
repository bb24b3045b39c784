use Rattle.std.proofs.Common.{[], slice_index_or}
use Rattle.driver_entries.specs.TableView.{table_view}
use Rattle.driver_passes.specs.RendersView.{render_view}
use Rattle.driver_writers.specs.Desk.{desk}
use Rattle.rounds_rendering.specs.Gathered.{request_again, request_tasks}
use Rattle.rounds_rendering.proofs.Changed.{Changed}
use Rattle.rounds_rendering.proofs.rerender.render_marked.Given as goal

abbrev pub invariant-loop-r : goal.invariant-loop-r
invariant-loop-r g l =
    record {
      changed : (way : g.W.CiteWriter.Way) → g.W.CiteWriter.agrees l.writer way → Changed render_view g.T.EntryLike.answers (λ w r. request_again l.states w (slice_index_or (table_view l.table).places r []))
          (λ r x. request_tasks l.states x.request (slice_index_or (table_view l.table).places r []) x.items)
          l.initial.cites (desk (g.W.CiteWriter.state l.fn.writer way) l.fn.counter) l.r l.cites (desk (g.W.CiteWriter.state l.writer way) l.counter);
      agreed : (way : g.W.CiteWriter.Way) → g.W.CiteWriter.agrees l.writer way → g.W.CiteWriter.agrees l.fn.writer way;
    }
