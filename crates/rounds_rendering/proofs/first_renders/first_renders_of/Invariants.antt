use Rattle.std.proofs.Common.{◌≡◌, [], ◌∷◌}
use Rattle.driver_passes.specs.RendersView.{items_view}
use Rattle.driver_passes.specs.RequestView.{request_view}
use Rattle.rounds_runs.specs.FirstRenders.{first_render, first_task}
use Rattle.driver_writers.specs.Desk.{desk}
use Rattle.driver_writers.specs.Tasks.{cite_task}
use Rattle.rounds_rendering.proofs.Made.{Made}
use Rattle.rounds_rendering.proofs.first_renders.first_renders_of.Given as goal

abbrev pub invariant-loop-k : goal.invariant-loop-k
invariant-loop-k g l = record {
  made : (way : g.W.CiteWriter.Way) → g.W.CiteWriter.agrees l.writer way → Made g.T.EntryLike.answers (λ w. first_render w (request_view l.request.request.now)) (λ x first. cite_task (first_task (request_view l.request.request.now) x first) ∷ [])
      (request_view l.request.request.now).cites l.firsts (desk (g.W.CiteWriter.state l.fn.writer way) l.fn.counter) l.k (items_view l.cites.items.items) (desk (g.W.CiteWriter.state l.writer way) l.counter);
  agreed : (way : g.W.CiteWriter.Way) → g.W.CiteWriter.agrees l.writer way → g.W.CiteWriter.agrees l.fn.writer way;
  same : request_view l.cites.request.now ≡ request_view l.request.request.now;
}
