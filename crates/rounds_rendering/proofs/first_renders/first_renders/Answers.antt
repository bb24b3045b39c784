use Rattle.std.proofs.Common.{◌≤◌, ap, length, map, refl, subst, sym, ◌∙◌}
use Rattle.std.proofs.lemmas.Option.{get_or_from_slice_get, slice_get_within}
use Rattle.driver_passes.specs.RendersView.{render_view}
use Rattle.driver_passes.specs.RequestView.{request_view, requests_view}
use Rattle.rounds_runs.specs.FirstRenders.{first_renders_of, first_tasks_of}
use Rattle.driver_writers.specs.Desk.{after, desk}
use Rattle.driver_writers.specs.Writing.{writing_of}
use Rattle.rounds_rendering.proofs.FirstSteps.{list-length, lists-length, request-within, row_of}
use Rattle.rounds_rendering.proofs.Made.{all-made, one-made}
use Rattle.rounds_rendering.proofs.Pairs.{at_view, past_view, within_view}
use Rattle.rounds_rendering.proofs.first_renders.first_renders.Goals as goal

pub at-requires : goal.at-requires
at-requires g c = request-within request_view c.args.requests.requests.now c.args.firsts.now c.loop-k.k c.requires.shape c.loop-k-test.true

pub first_renders_of-requires : goal.first_renders_of-requires
first_renders_of-requires g c =
    let k = c.loop-k.k in
    let requests = requests_view c.args.requests.requests.now in
    let request = request_view c.at.result.request.now in
    let row_here = at_view row_of {xs = c.args.firsts.now} k refl c.index-firsts-k.result c.index-firsts-k.is in
    record {
      shape = ap length c.deref.ensures.value
          ∙ list-length requests k request (slice_get_within requests k request c.at.ensures) (sym (get_or_from_slice_get requests k request request c.at.ensures))
          (map row_of c.args.firsts.now) (row_of c.index-firsts-k.result) c.requires.shape row_here;
    }

pub loop-k-init : goal.loop-k-init
loop-k-init g c = record { made = λ way ok. record { made_is = c.in_ok-cites.ensures; asked = refl }; agreed = λ way ok. ok }

pub loop-k-preserved : goal.loop-k-preserved
loop-k-preserved g c =
    let k = c.loop-k.k in
    let requests = requests_view c.args.requests.requests.now in
    let request = request_view c.at.result.request.now in
    let ok_before = c.in_ok-rendered.ensures.agreed in
    record {
      made = λ way ok. one-made g.T.EntryLike.answers first_renders_of first_tasks_of requests (map row_of c.args.firsts.now) (desk (g.W.CiteWriter.state c.args.writer.now way) c.args.counter.now) k request (row_of c.index-firsts-k.result)
          _ _ (render_view c.in_ok-rendered.rendered) _ _ (slice_get_within requests k request c.at.ensures) (within_view row_of {xs = c.args.firsts.now} k refl c.loop-k-test.true)
          (sym (get_or_from_slice_get requests k request request c.at.ensures)) (at_view row_of {xs = c.args.firsts.now} k refl c.index-firsts-k.result c.index-firsts-k.is)
          (c.loop-k.invariant.made way (ok_before way ok)) c.in_ok-push.ensures
          (c.in_ok-rendered.ensures.cites way ok ∙ ap (first_renders_of (writing_of g.T.EntryLike.answers (g.W.CiteWriter.state c.loop-k.writer way)) request) c.deref.ensures.value)
          (c.in_ok-rendered.ensures.asked way ok ∙ ap (λ firsts. after (first_tasks_of request firsts) (desk (g.W.CiteWriter.state c.loop-k.writer way) c.loop-k.counter)) c.deref.ensures.value);
      agreed = λ way ok. c.loop-k.invariant.agreed way (ok_before way ok);
    }

pub returns : goal.returns
returns g c =
    let requests = requests_view c.args.requests.requests.now in
    let rows = map row_of c.args.firsts.now in
    let past = subst (λ n. n ≤ c.loop-k.k) (lists-length requests rows c.requires.shape) (past_view row_of {xs = c.args.firsts.now} c.loop-k.k refl c.loop-k-test.false) in
    let done = λ (way : g.W.CiteWriter.Way) (ok : g.W.CiteWriter.agrees c.loop-k.writer way). all-made g.T.EntryLike.answers first_renders_of first_tasks_of requests rows (desk (g.W.CiteWriter.state c.args.writer.now way) c.args.counter.now) c.loop-k.k _ _ past (c.loop-k.invariant.made way ok) in
    record { cites = λ way ok. (done way ok).0; asked = λ way ok. (done way ok).1; agreed = c.loop-k.invariant.agreed }
