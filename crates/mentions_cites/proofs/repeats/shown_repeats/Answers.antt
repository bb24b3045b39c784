use Rattle.std.proofs.Common.{None, ap, get_or, length, map, ◌≡◌, ◌<◌, ◌∙◌}
use Rattle.std.specs.Option.{option_and_then}
use Rattle.std.proofs.lemmas.List.{get_or_default}
use Rattle.mentions_cited.specs.Cited.{first_task}
use Rattle.mentions_tables.specs.Tables.{with_mention}
use Rattle.mentions_cites.specs.Mentions.{kept_last}
use Rattle.mentions_cites.specs.Repeats.{repeat_task, shown_repeat}
use Rattle.mentions_cites.proofs.Repeating.{cites-asked-next, numbered-next}
use Rattle.driver_writers.specs.Desk.{Desk, desk}
use Rattle.mentions_cites.proofs.repeats.shown_repeats.Goals as goal

pub loop-place-preserved : goal.loop-place-preserved
loop-place-preserved g c =
    let Way = g.W.CiteWriter.Way in
    let w0 = λ (way : Way). g.W.CiteWriter.state c.args.writer.now way in
    let w1 = λ (way : Way). g.W.CiteWriter.state c.loop-place.writer way in
    let w2 = λ (way : Way). g.W.CiteWriter.state c.shown_repeat.new.writer way in
    let told = c.args.known.told.now in
    let repeats = c.args.repeats.now in
    let k = c.loop-place.place in
    let within : k < length repeats = c.loop-place-test.true in
    let repeated = get_or repeats k None in
    let here = get_or_default repeats k None repeated within in
    let subjects = map (with_mention first_task) c.args.subjects.now in
    let mentions = c.args.known.mentions.now in
    let lasts = kept_last told.firsts.items told.again.items in
    let was = c.loop-place.invariant in
    let agreed = c.in_ok-shown.ensures.agreed in
    let same : (way : Way) → g.W.CiteWriter.agrees c.shown_repeat.new.writer way → (w1 way).cite ≡ (w0 way).cite =
    λ way ok. ap (λ (d : Desk g.row.T.Denot g.row.P.Denot g.row.W-Note.Denot). d.writer.cite) (was.asked way (agreed way ok)) in
    record {
      shown = λ way ok. numbered-next repeats k repeated within here (shown_repeat mentions subjects told.states.items lasts (w0 way).cite) c.loop-place.found.items c.push.new.values.items c.in_ok-shown.shown
          (was.shown way (agreed way ok)) c.in_ok-push.ensures
          (c.in_ok-shown.ensures.shown way ok ∙ ap (λ cite. shown_repeat mentions subjects told.states.items lasts cite (k, repeated)) (same way ok));
      asked = λ way ok. cites-asked-next repeats k repeated within here (desk (w0 way) c.args.counter.now) (desk (w1 way) c.loop-place.counter) (desk (w2 way) c.shown_repeat.new.counter)
          (λ o. option_and_then (repeat_task mentions subjects told.states.items) o) (was.asked way (agreed way ok)) (c.in_ok-shown.ensures.asked way ok);
      agreed = λ way ok. was.agreed way (agreed way ok);
    }
