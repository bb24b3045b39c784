use Rattle.driver_passes.specs.RendersView.{item_view}
use Rattle.driver_passes.specs.RequestView.{request_view}
use Rattle.rounds_runs.specs.Rounds.{tasks_with}
use Rattle.driver_writers.specs.Desk.{desk}
use Rattle.rounds_rendering.specs.Gathered.{cite_again, state_at}
use Rattle.rounds_rendering.proofs.Changed.{Changed}
use Rattle.rounds_rendering.proofs.rerender.render_items.Given as goal

abbrev pub invariant-loop-k : goal.invariant-loop-k
invariant-loop-k g l =
    record {
      changed : (way : g.W.CiteWriter.Way) → g.W.CiteWriter.agrees l.writer way → Changed item_view g.T.EntryLike.answers (λ w. cite_again l.states w (request_view l.request.request.now) l.places) (λ k. tasks_with (request_view l.request.request.now) (state_at l.states l.places k))
          l.initial.items (desk (g.W.CiteWriter.state l.fn.writer way) l.fn.counter) l.k l.items (desk (g.W.CiteWriter.state l.writer way) l.counter);
      agreed : (way : g.W.CiteWriter.Way) → g.W.CiteWriter.agrees l.writer way → g.W.CiteWriter.agrees l.fn.writer way;
    }
