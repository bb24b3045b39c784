use Rattle.std.proofs.Common.{ap, get_or, refl, ◌∙◌}
use Rattle.driver_passes.specs.RendersView.{item_view}
use Rattle.driver_passes.specs.RequestView.{request_view}
use Rattle.rounds_runs.specs.Rounds.{tasks_with, with_any}
use Rattle.driver_writers.specs.Desk.{after, desk}
use Rattle.driver_writers.specs.Writing.{writing_of}
use Rattle.rounds_rendering.specs.Gathered.{cite_again, state_at}
use Rattle.rounds_rendering.proofs.Changed.{all-changed, one-changed}
use Rattle.rounds_rendering.proofs.rerender.render_items.Goals as goal

pub loop-k-init : goal.loop-k-init
loop-k-init g c = record { changed = λ way ok. record { again = refl; asked = refl }; agreed = λ way ok. ok }

pub loop-k-preserved : goal.loop-k-preserved
loop-k-preserved g c =
    let states = c.args.states.now in
    let places = c.args.places.now in
    let request = request_view c.args.request.request.now in
    let k = c.loop-k.k in
    let found = c.index-items-k.result in
    let item = item_view (get_or c.loop-k.items k found) in
    let before = λ (way : g.W.CiteWriter.Way). desk (g.W.CiteWriter.state c.loop-k.writer way) c.loop-k.counter in
    let ok_before = c.in_ok-render_with.ensures.agreed in
    let state = c.state_at-state.ensures in
    record {
      changed = λ way ok. one-changed item_view g.T.EntryLike.answers (λ w. cite_again states w request places) (λ k. tasks_with request (state_at states places k)) c.args.items.now
          (desk (g.W.CiteWriter.state c.args.writer.now way) c.args.counter.now) k c.loop-k.items (before way) _ found c.render_with.new.item (c.loop-k.invariant.changed way (ok_before way ok)) c.loop-k-test.true
          (c.in_ok-render_with.ensures.again way ok ∙ ap (λ s. with_any (writing_of g.T.EntryLike.answers (g.W.CiteWriter.state c.loop-k.writer way)) request s item) state)
          (c.in_ok-render_with.ensures.asked way ok ∙ ap (λ s. after (tasks_with request s item) (before way)) state);
      agreed = λ way ok. c.loop-k.invariant.agreed way (ok_before way ok);
    }

pub returns : goal.returns
returns g c =
    let request = request_view c.args.request.request.now in
    let done = λ (way : g.W.CiteWriter.Way) (ok : g.W.CiteWriter.agrees c.loop-k.writer way). all-changed item_view g.T.EntryLike.answers (λ w. cite_again c.args.states.now w request c.args.places.now) (λ k. tasks_with request (state_at c.args.states.now c.args.places.now k)) c.args.items.now
    (desk (g.W.CiteWriter.state c.args.writer.now way) c.args.counter.now) c.loop-k.k c.loop-k.items _ (c.loop-k.invariant.changed way ok) c.loop-k-test.false in
    record { again = λ way ok. (done way ok).0; asked = λ way ok. (done way ok).1; agreed = c.loop-k.invariant.agreed }
