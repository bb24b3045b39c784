use Rattle.std.proofs.Common.{[], ◌∷◌, ap, map, ◌≡◌, ◌∙◌}
use Rattle.std.proofs.lemmas.List.{map-append}
use Rattle.mentions_cited.specs.Cited.{first_task}
use Rattle.mentions_tables.specs.Tables.{with_mention}
use Rattle.mentions_tables.proofs.Walking.{pushed-next}
use Rattle.mentions_cites.specs.Mentions.{kept_last}
use Rattle.mentions_cites.specs.Repeats.{repeat_tasks, shown_repeats}
use Rattle.mentions_cites.proofs.Repeating.{lists-asked-next}
use Rattle.mentions_cites.proofs.Triples.{seen-here, seen-there}
use Rattle.driver_writers.specs.Desk.{Desk, after, desk}
use Rattle.driver_writers.specs.Tasks.{cite_task}
use Rattle.mentions_cites.proofs.repeats.all_shown_repeats.Goals as goal

pub loop-request-preserved : goal.loop-request-preserved
loop-request-preserved g c =
    let Way = g.W.CiteWriter.Way in
    let w0 = λ (way : Way). g.W.CiteWriter.state c.args.writer.now way in
    let w1 = λ (way : Way). g.W.CiteWriter.state c.loop-request.writer way in
    let w2 = λ (way : Way). g.W.CiteWriter.state c.shown_repeats.new.writer way in
    let told = c.args.known.told.now in
    let mentions = c.args.known.mentions.now in
    let lasts = kept_last told.firsts.items told.again.items in
    let repeats = c.args.repeats.now in
    let lists = map (λ r. r.items) repeats in
    let k = c.loop-request.request-index in
    let one = c.request-item.result in
    let within = seen-there (λ r. r.items) repeats k c.loop-request-test.true in
    let here = seen-here (λ r. r.items) repeats k one c.request-item.is in
    let subjects = map (with_mention first_task) c.args.subjects.now in
    let was = c.loop-request.invariant in
    let agreed = c.in_ok-shown.ensures.agreed in
    let same : (way : Way) → g.W.CiteWriter.agrees c.shown_repeats.new.writer way → (w1 way).cite ≡ (w0 way).cite =
    λ way ok. ap (λ (d : Desk g.row.T.Denot g.row.P.Denot g.row.W-Note.Denot). d.writer.cite) (was.asked way (agreed way ok)) in
    record {
      shown = λ way ok. pushed-next lists k one.items within here (shown_repeats mentions subjects told.states.items lasts (w0 way).cite) (map (λ s. s.items) c.loop-request.found.items)
          (map (λ s. s.items) c.push.new.values.items) c.in_ok-shown.shown.items (was.shown way (agreed way ok))
          (ap (map (λ s. s.items)) c.in_ok-push.ensures ∙ map-append (λ s. s.items) c.loop-request.found.items (c.in_ok-shown.shown ∷ []))
          (c.in_ok-shown.ensures.shown way ok ∙ (λ i. shown_repeats mentions subjects told.states.items lasts (same way ok i) (c.deref.ensures.value i)));
      asked = λ way ok. lists-asked-next lists k one.items within here (desk (w0 way) c.args.counter.now) (desk (w1 way) c.loop-request.counter) (desk (w2 way) c.shown_repeats.new.counter)
          (repeat_tasks mentions subjects told.states.items) (was.asked way (agreed way ok))
          (c.in_ok-shown.ensures.asked way ok ∙ ap (λ rs. after (map cite_task (repeat_tasks mentions subjects told.states.items rs)) (desk (w1 way) c.loop-request.counter)) c.deref.ensures.value);
      agreed = λ way ok. was.agreed way (agreed way ok);
    }
