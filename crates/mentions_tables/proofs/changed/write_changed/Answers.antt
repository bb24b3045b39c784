use Rattle.std.proofs.Common.{◌<◌, ◌≤◌, arith, ap, get_or, length, refl, subst, sym, take, ◌∙◌}
use Rattle.std.specs.Prelude.{flat_map}
use Rattle.std.specs.List.{zip}
use Rattle.std.proofs.lemmas.List.{take_all}
use Rattle.mentions_tables.specs.Asked.{asked_for, first_kept, keeping, reading, untold}
use Rattle.mentions_tables.specs.Steps.{rekept, rewritten, tasks_of}
use Rattle.mentions_tables.proofs.Asking.{keeps-same, reads-same}
use Rattle.mentions_tables.proofs.Changing.{changed-all, changed-more, changed-none, map-at, zip-at, zip-length}
use Rattle.mentions_tables.proofs.Walking.{asked-some}
use Rattle.mentions_tables.proofs.changed.write_changed.Goals as goal

pub loop-k-init : goal.loop-k-init
loop-k-init g c = record {
  again = λ way ok. changed-none (rewritten (reading (g.M.WrittenBy.writing c.args.writer.now c.args.counter.now way)) c.args.changed) (zip c.args.subjects.now c.args.states.now) c.args.mentions.now;
  kept = λ way ok. changed-none (rekept (keeping (g.M.WrittenBy.writing c.args.writer.now c.args.counter.now way)) c.args.changed) (zip c.args.subjects.now c.args.states.now) c.args.again.now;
  asked = λ way ok. refl;
  goes_on = g.M.WrittenBy.stays c.args.writer.now;
}

pub write_if_changed-requires : goal.write_if_changed-requires
write_if_changed-requires g c = λ way ok.
    let w0 = g.M.WrittenBy.writing c.args.writer.now c.args.counter.now way in
    let w1 = g.M.WrittenBy.writing c.loop-k.writer c.loop-k.counter way in
    let at_first = g.M.WrittenBy.agreed_before c.args.writer.now c.loop-k.writer way c.loop-k.invariant.goes_on ok in
    let subjects = c.args.subjects.now in
    let k = c.loop-k.k in
    let s = c.index-subjects-k.result in
    let first = c.index-firsts-k.result in
    let tasks = flat_map (tasks_of c.args.changed) (take k (zip subjects c.args.states.now)) in
    map-at (λ s. first_kept w0 s.mention) k subjects s first c.loop-k-test.true c.index-subjects-k.is (c.index-firsts-k.is ∙ ap (λ fs. get_or fs k first) (c.requires.kept way at_first))
    ∙ ap (λ w. w s.mention untold) (sym (keeps-same w0 w1 tasks (c.loop-k.invariant.asked way ok)))

pub loop-k-preserved : goal.loop-k-preserved
loop-k-preserved g c =
    let Way = g.M.WrittenBy.Way in
    let w0 = λ (way : Way). g.M.WrittenBy.writing c.args.writer.now c.args.counter.now way in
    let w1 = λ (way : Way). g.M.WrittenBy.writing c.loop-k.writer c.loop-k.counter way in
    let w2 = λ (way : Way). g.M.WrittenBy.writing c.write_if_changed.new.writer c.write_if_changed.new.counter way in
    let subjects = c.args.subjects.now in
    let states = c.args.states.now in
    let pairs = zip subjects states in
    let k = c.loop-k.k in
    let s = c.index-subjects-k.result in
    let t = c.index-states-k.result in
    let m = c.index-mentions-k.result in
    let test = c.loop-k-test.true in
    let long_states = c.requires.states in
    let some = g.met.M.WrittenBy.some_way c.loop-k.writer in
    let was = c.loop-k.invariant in
    let long_mentions = c.requires.mentions in
    let long_again = c.requires.again in
    let o = c.index-again-k.result in
    let within : k < length pairs = subst (λ n. k < n) (sym (zip-length subjects states c.requires.states)) test in
    let here = zip-at k subjects states s t test (omega arith) c.index-subjects-k.is c.index-states-k.is in
    let tasks = flat_map (tasks_of c.args.changed) (take k pairs) in
    let long_m : k < length c.args.mentions.now = omega arith in
    let long_a : k < length c.args.again.now = omega arith in
    let ok_before = λ (way : Way) (ok : g.M.WrittenBy.agrees c.write_if_changed.new.writer way).
    g.M.WrittenBy.agreed_before c.loop-k.writer c.write_if_changed.new.writer way c.in_ok-write_if_changed.ensures.goes_on ok in
    record {
      kept = λ way ok. changed-more (rekept (keeping (w0 way)) c.args.changed) k pairs c.args.again.now c.loop-k.again (s, t) (s, t) o c.write_if_changed.new.again (was.kept way (ok_before way ok)) within long_a here
          (c.in_ok-write_if_changed.ensures.kept way ok ∙ ap (λ w. rekept w c.args.changed (s, t) (get_or c.loop-k.again k o)) (keeps-same (w0 way) (w1 way) tasks (was.asked way (ok_before way ok))));
      again = λ way ok. changed-more (rewritten (reading (w0 way)) c.args.changed) k pairs c.args.mentions.now c.loop-k.mentions (s, t) (s, t) m c.write_if_changed.new.mention (was.again way (ok_before way ok)) within long_m here
          (c.in_ok-write_if_changed.ensures.again way ok ∙ ap (λ w. rewritten w c.args.changed (s, t) (get_or c.loop-k.mentions k m)) (reads-same (w0 way) (w1 way) tasks (was.asked way (ok_before way ok))));
      asked = λ way ok. asked-some pairs k (s, t) within here (w0 way) (w1 way) (w2 way) (tasks_of c.args.changed) (was.asked way (ok_before way ok)) (c.in_ok-write_if_changed.ensures.asked way ok);
      goes_on = g.M.WrittenBy.follows c.args.writer.now c.loop-k.writer c.write_if_changed.new.writer was.goes_on c.in_ok-write_if_changed.ensures.goes_on;
    }

pub returns : goal.returns
returns g c =
    let w0 = λ (way : g.M.WrittenBy.Way). g.M.WrittenBy.writing c.args.writer.now c.args.counter.now way in
    let pairs = zip c.args.subjects.now c.args.states.now in
    let test = c.loop-k-test.false in
    let past : length pairs ≤ c.loop-k.k = subst (λ n. n ≤ c.loop-k.k) (sym (zip-length c.args.subjects.now c.args.states.now c.requires.states)) test in
    record {
      again = λ way ok. changed-all (rewritten (reading (w0 way)) c.args.changed) c.loop-k.k pairs c.args.mentions.now c.loop-k.mentions (c.loop-k.invariant.again way ok) past;
      kept = λ way ok. changed-all (rekept (keeping (w0 way)) c.args.changed) c.loop-k.k pairs c.args.again.now c.loop-k.again (c.loop-k.invariant.kept way ok) past;
      asked = λ way ok. c.loop-k.invariant.asked way ok ∙ ap (λ ps. asked_for (flat_map (tasks_of c.args.changed) ps) (w0 way)) (take_all c.loop-k.k pairs past);
      goes_on = c.loop-k.invariant.goes_on;
    }
