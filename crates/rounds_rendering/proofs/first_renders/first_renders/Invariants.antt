use Rattle.std.proofs.Common.{map}
use Rattle.driver_passes.specs.RendersView.{renders_view}
use Rattle.driver_passes.specs.RequestView.{requests_view}
use Rattle.rounds_runs.specs.FirstRenders.{first_renders_of, first_tasks_of}
use Rattle.driver_writers.specs.Desk.{desk}
use Rattle.rounds_rendering.proofs.FirstSteps.{row_of}
use Rattle.rounds_rendering.proofs.Made.{Made}
use Rattle.rounds_rendering.proofs.first_renders.first_renders.Given as goal

abbrev pub invariant-loop-k : goal.invariant-loop-k
invariant-loop-k g l =
    record {
      made : (way : g.W.CiteWriter.Way) → g.W.CiteWriter.agrees l.writer way → Made g.T.EntryLike.answers first_renders_of first_tasks_of (requests_view l.requests.requests.now) (map row_of l.firsts) (desk (g.W.CiteWriter.state l.fn.writer way) l.fn.counter) l.k
          (renders_view l.cites.by_request.items) (desk (g.W.CiteWriter.state l.writer way) l.counter);
      agreed : (way : g.W.CiteWriter.Way) → g.W.CiteWriter.agrees l.writer way → g.W.CiteWriter.agrees l.fn.writer way;
    }
