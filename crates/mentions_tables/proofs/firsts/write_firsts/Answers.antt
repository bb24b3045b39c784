use Rattle.std.proofs.Common.{None, ap, map, refl, subst, take, ◌∙◌}
use Rattle.std.proofs.lemmas.List.{take_all}
use Rattle.mentions_tables.specs.Asked.{asked_for, first_kept, reading, untold}
use Rattle.mentions_tables.specs.Steps.{AreFirsts}
use Rattle.mentions_tables.specs.Tables.{first_tasks, mention_in, named_in}
use Rattle.mentions_tables.proofs.Asking.{writes-same}
use Rattle.mentions_tables.proofs.Walking.{asked-next, pushed-next}
use Rattle.mentions_tables.proofs.firsts.write_firsts.Goals as goal

pub loop-subject-preserved : goal.loop-subject-preserved
loop-subject-preserved g c =
    let Way = g.M.WrittenBy.Way in
    let w0 = λ (way : Way). g.M.WrittenBy.writing c.args.writer.now c.args.counter.now way in
    let w1 = λ (way : Way). g.M.WrittenBy.writing c.loop-subject.writer c.loop-subject.counter way in
    let w2 = λ (way : Way). g.M.WrittenBy.writing c.write_first.new.writer c.write_first.new.counter way in
    let ok_before = λ (way : Way) (ok : g.M.WrittenBy.agrees c.write_first.new.writer way).
    g.M.WrittenBy.agreed_before c.loop-subject.writer c.write_first.new.writer way c.in_ok-written.ensures.goes_on ok in
    let subjects = c.args.subjects.now in
    let k = c.loop-subject.subject-index in
    let s = c.subject-item.result in
    let within = c.loop-subject-test.true in
    let here = c.subject-item.is in
    let added = c.in_ok-add_first.ensures in
    let old = c.loop-subject.firsts in
    let new = c.add_first.new.firsts in
    let was = c.loop-subject.invariant in
    record {
      firsts = λ way ok.
          let so_far = was.firsts way (ok_before way ok) in
          let same = writes-same (w0 way) (w1 way) (first_tasks (take k subjects)) (was.asked way (ok_before way ok)) in
          let written = c.in_ok-written.ensures.written way ok ∙ (λ i. same i s.mention untold) in
          record {
            mentions = pushed-next subjects k s within here (λ s. mention_in (reading (w0 way)) s untold) old.mentions.items new.mentions.items _ so_far.mentions added.mentions
                (λ i. record { entry = s.entry; is_first = s.is_first; occurs = s.occurs; text = (written i).read.text; adds_suffix = s.adds_suffix });
            named = pushed-next subjects k s within here (named_in (reading (w0 way)) None) old.named.items new.named.items _ so_far.named added.named
                (λ i. record { names = (written i).read.names; adds_names = s.adds_names; rule = s.rule; group = None; occurs = s.occurs });
            tested = pushed-next subjects k s within here (λ s. (reading (w0 way) s.mention untold).tested) old.tested.items new.tested.items _ so_far.tested added.tested (ap (λ w. w.read.tested) written);
            kept = pushed-next subjects k s within here (λ s. first_kept (w0 way) s.mention) old.kept.items new.kept.items _ so_far.kept added.kept (ap (λ w. w.kept) written);
            again = pushed-next subjects k s within here (λ s. None) old.again.items new.again.items None so_far.again added.again refl;
          };
      asked = λ way ok. asked-next subjects k s within here (w0 way) (w1 way) (w2 way) (λ s. (s.mention, untold)) (was.asked way (ok_before way ok)) (c.in_ok-written.ensures.asked way ok);
      goes_on = g.M.WrittenBy.follows c.args.writer.now c.loop-subject.writer c.write_first.new.writer was.goes_on c.in_ok-written.ensures.goes_on;
    }

pub returns : goal.returns
returns g c =
    let w0 = λ (way : g.M.WrittenBy.Way). g.M.WrittenBy.writing c.args.writer.now c.args.counter.now way in
    let all = take_all c.loop-subject.subject-index c.args.subjects.now c.loop-subject-test.false in
    record {
      firsts = λ way ok. subst (λ ss. AreFirsts (w0 way) ss c.loop-subject.firsts) all (c.loop-subject.invariant.firsts way ok);
      asked = λ way ok. c.loop-subject.invariant.asked way ok ∙ ap (λ ss. asked_for (map (λ s. (s.mention, untold)) ss) (w0 way)) all;
      goes_on = c.loop-subject.invariant.goes_on;
    }
