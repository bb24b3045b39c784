-- The copy is the state of the entry.
use Rattle.std.proofs.Common.{◌≡◌, ◌∷◌, [], ap, option_map, sym, ◌∙◌}
use Rattle.std.proofs.lemmas.Result.{on_ok_weaker}
use Rattle.driver_lookup.proofs.Copies.{state_copied}
use Rattle.driver_passes.specs.RendersView.{item_view}
use Rattle.driver_passes.specs.RequestView.{request_view}
use Rattle.rounds_runs.specs.Rounds.{again_task, tasks_with}
use Rattle.driver_writers.specs.Desk.{after, desk}
use Rattle.driver_writers.specs.Tasks.{cite_task}
use Rattle.rounds_rendering.proofs.rerender.render_with.Goals as goal

pub returns-in_ok-clone-in-Some-clause-asked : goal.returns-in_ok-clone-in-Some-clause-asked
returns-in_ok-clone-in-Some-clause-asked g c =
    let request = request_view c.args.request.request.now in
    let item = item_view c.args.item.now in
    let before = λ (way : g.W.CiteWriter.Way). desk (g.W.CiteWriter.state c.args.writer.now way) c.args.counter.now in
    let copied = state_copied _ _ c.in_ok-clone-in-Some.ensures.cases in
    on_ok_weaker c.render_again.result
    (λ asked way ok. asked way ok ∙ ap (λ s. after (cite_task (again_task request s item) ∷ []) (before way)) copied
    ∙ ap (λ s. after (tasks_with request (option_map (λ b. b.now) s) item) (before way)) (sym c.in-Some.is))
    c.render_again.ensures.asked
