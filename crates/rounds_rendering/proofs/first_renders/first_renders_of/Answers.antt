use Rattle.std.proofs.Common.{[], ◌<◌, ◌∷◌, ℕ, ap, refl, subst, sym, ◌∙◌}
use Rattle.std.specs.Prelude.{zip}
use Rattle.std.proofs.lemmas.List.{get_or_default, map-append}
use Rattle.std.proofs.lemmas.List.Concat.{flat_map_single}
use Rattle.driver_passes.specs.RendersView.{item_view, items_view}
use Rattle.driver_passes.specs.RequestView.{cite_view, request_view}
use Rattle.rounds_runs.specs.FirstRenders.{first_render, first_task}
use Rattle.driver_writers.specs.Desk.{after, desk}
use Rattle.driver_writers.specs.Tasks.{cite_task}
use Rattle.rounds_rendering.proofs.Made.{all-made, one-made}
use Rattle.rounds_rendering.proofs.Pairs.{at_view, past_view, within_view}
use Rattle.rounds_rendering.proofs.first_renders.first_renders_of.Goals as goal

pub loop-k-init : goal.loop-k-init
loop-k-init g c = record {
  made = λ way ok. record { made_is = ap items_view c.in_ok-with_capacity.ensures.items; asked = refl };
  agreed = λ way ok. ok;
  same = refl;
}

pub loop-k-preserved : goal.loop-k-preserved
loop-k-preserved g c =
    let same = c.deref-item-items.ensures.value in
    let request = request_view c.args.request.request.now in
    let within = within_view cite_view c.loop-k.k same c.loop-k-test.true in
    let first_within = subst (λ (n : ℕ). c.loop-k.k < n) (sym c.requires.shape) within in
    let ok_before = c.in_ok-cite.ensures.agreed in
    record {
      made = λ way ok. one-made g.T.EntryLike.answers (λ w. first_render w request) (λ x first. cite_task (first_task request x first) ∷ []) request.cites c.args.firsts.now (desk (g.W.CiteWriter.state c.args.writer.now way) c.args.counter.now) c.loop-k.k (cite_view c.item-item.result) _
          _ _ (item_view c.in_ok-cite.cite) _ _ within first_within (at_view cite_view c.loop-k.k same c.item-item.result c.item-item.is) (get_or_default c.args.firsts.now c.loop-k.k _ _ first_within)
          (c.loop-k.invariant.made way (ok_before way ok)) (ap items_view c.in_ok-push.ensures ∙ map-append item_view _ _) (c.in_ok-cite.ensures.cite way ok) (c.in_ok-cite.ensures.asked way ok);
      agreed = λ way ok. c.loop-k.invariant.agreed way (ok_before way ok);
      same = c.loop-k.invariant.same;
    }

pub returns : goal.returns
returns g c =
    let request = request_view c.args.request.request.now in
    let old = λ (way : g.W.CiteWriter.Way). (desk (g.W.CiteWriter.state c.args.writer.now way) c.args.counter.now) in
    let done = λ (way : g.W.CiteWriter.Way) (ok : g.W.CiteWriter.agrees c.loop-k.writer way). all-made g.T.EntryLike.answers (λ w. first_render w request) (λ x first. cite_task (first_task request x first) ∷ []) request.cites c.args.firsts.now (old way) c.loop-k.k _ _
    (past_view cite_view c.loop-k.k c.deref-item-items.ensures.value c.loop-k-test.false) (c.loop-k.invariant.made way ok) in
    record {
      cites = λ way ok i. record { items = (done way ok).0 i; request = c.loop-k.invariant.same i };
      asked = λ way ok. (done way ok).1 ∙ ap (λ l. after l (old way)) (flat_map_single (λ z. cite_task (first_task request z.0 z.1)) (zip request.cites c.args.firsts.now));
      agreed = c.loop-k.invariant.agreed;
    }
