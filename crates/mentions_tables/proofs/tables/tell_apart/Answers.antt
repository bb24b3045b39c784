use Rattle.std.proofs.Common.{ap, length, map, sym, zip, ◌++◌, ◌∙◌}
use Rattle.std.specs.Prelude.{flat_map, is_some}
use Rattle.std.proofs.Math.ListN.{length-map}
use Rattle.std.proofs.lemmas.List.{with_items_is}
use Rattle.mentions_groups.specs.Groups.{is_asked, text_of}
use Rattle.mentions_groups.specs.Suffixes.{suffixes}
use Rattle.mentions_tables.specs.Asked.{asked_for, keeping, reading}
use Rattle.mentions_tables.specs.Steps.{all_changed, chosen_by, rekept, rewritten, tasks_of}
use Rattle.mentions_tables.specs.Tables.{first_tasks, kept_at_first, second_table, tasks_where, third_table}
use Rattle.mentions_tables.specs.declared.changed.Changed.{Changed}
use Rattle.mentions_tables.proofs.Asking.{asked-more, keeps-same, reads-same}
use Rattle.mentions_tables.proofs.Joined.{kept-length, mentions-length, second-length, tasks-are, third-is, third-kept, third-length, third-mentions}
use Rattle.mentions_tables.proofs.tables.tell_apart.Goals as goal

pub choose-requires : goal.choose-requires
choose-requires g c =
    let some = g.met.M.WrittenBy.some_way c.tell_by_names.new.writer in
    let w0 = g.M.WrittenBy.writing c.args.writer.now c.args.counter.now some.0 in
    let ss = c.args.subjects.now in
    let named = c.in_ok-named.ensures in
    let mentions = named.mentions some.0 some.1 in
    let tested = named.tested some.0 some.1 in
    let states = named.states some.0 some.1 in
    let long = mentions-length (reading w0) ss (second_table (reading w0) ss) (second-length (reading w0) ss) ∙ sym (ap length (c.deref.ensures.value ∙ mentions)) in
    record {
      tested = ap length (c.deref-2.ensures.value ∙ tested) ∙ length-map ss _ ∙ long;
      states = ap length (c.deref_mut.ensures.value ∙ states) ∙ sym (second-length (reading w0) ss) ∙ long;
    }

pub write_changed-requires : goal.write_changed-requires
write_changed-requires g c =
    let Way = g.M.WrittenBy.Way in
    let some = g.met.M.WrittenBy.some_way c.tell_by_names.new.writer in
    let w0 = λ (way : Way). g.M.WrittenBy.writing c.args.writer.now c.args.counter.now way in
    let w1 = λ (way : Way). g.M.WrittenBy.writing c.tell_by_names.new.writer c.tell_by_names.new.counter way in
    let w = w0 some.0 in
    let ss = c.args.subjects.now in
    let named = c.in_ok-named.ensures in
    let ms_are = c.deref.ensures.value ∙ named.mentions some.0 some.1 in
    let tested_are = c.deref-2.ensures.value ∙ named.tested some.0 some.1 in
    let states_are = c.deref_mut.ensures.value ∙ named.states some.0 some.1 in
    let third = c.in_ok-choose.ensures ∙ (λ i. all_changed chosen_by (zip (tested_are i) (map (is_asked (ms_are i)) (ms_are i))) (states_are i)) ∙ third-is (reading w) ss in
    let kept = with_items_is c.in_ok-named.named.states c.choose.new.states (c.choose.auto.states ∙ ap length c.deref_mut.ensures.value ∙ sym c.in_ok-named.named.states.ok.0) in
    record {
      states = third-length (reading w) ss ∙ sym (ap length (c.deref-3.ensures.value ∙ kept ∙ third));
      firsts = sym (ap length (c.deref-4.ensures.value ∙ named.firsts some.0 some.1) ∙ length-map ss _);
      mentions = mentions-length (reading w) ss (second_table (reading w) ss) (second-length (reading w) ss) ∙ sym (ap length (c.deref_mut-2.ensures.value ∙ named.mentions some.0 some.1));
      again = kept-length (reading w) (keeping w) ss (second_table (reading w) ss) (second-length (reading w) ss) ∙ sym (ap length (c.deref_mut-3.ensures.value ∙ named.again some.0 some.1));
      kept = λ way ok. c.deref-4.ensures.value ∙ named.firsts way ok
          ∙ ap (λ k. kept_at_first k ss) (sym (keeps-same (w0 way) (w1 way) (first_tasks ss ++ tasks_where ss (λ s. is_some s.names) (second_table (reading (w0 way)) ss)) (named.asked way ok)));
    }

pub returns : goal.returns
returns g c =
    let Way = g.M.WrittenBy.Way in
    let w0 = λ (way : Way). g.M.WrittenBy.writing c.args.writer.now c.args.counter.now way in
    let w1 = λ (way : Way). g.M.WrittenBy.writing c.tell_by_names.new.writer c.tell_by_names.new.counter way in
    let w2 = λ (way : Way). g.M.WrittenBy.writing c.write_changed.new.writer c.write_changed.new.counter way in
    let ss = c.args.subjects.now in
    let named = c.in_ok-named.ensures in
    let ok1 = λ (way : Way) (ok : g.M.WrittenBy.agrees c.write_changed.new.writer way).
    g.M.WrittenBy.agreed_before c.tell_by_names.new.writer c.write_changed.new.writer way c.in_ok-write_changed.ensures.goes_on ok in
    let ms_are = λ (way : Way) (ok : _). c.deref.ensures.value ∙ named.mentions way (ok1 way ok) in
    let tested_are = λ (way : Way) (ok : _). c.deref-2.ensures.value ∙ named.tested way (ok1 way ok) in
    let states_are = λ (way : Way) (ok : _). c.deref_mut.ensures.value ∙ named.states way (ok1 way ok) in
    let third = λ (way : Way) (ok : _). c.in_ok-choose.ensures
    ∙ (λ i. all_changed chosen_by (zip (tested_are way ok i) (map (is_asked (ms_are way ok i)) (ms_are way ok i))) (states_are way ok i)) ∙ third-is (reading (w0 way)) ss in
    let kept = with_items_is c.in_ok-named.named.states c.choose.new.states (c.choose.auto.states ∙ ap length c.deref_mut.ensures.value ∙ sym c.in_ok-named.named.states.ok.0) in
    let told = λ (way : Way) (ok : _). c.deref-3.ensures.value ∙ kept ∙ third way ok in
    let before = λ (way : Way). first_tasks ss ++ tasks_where ss (λ s. is_some s.names) (second_table (reading (w0 way)) ss) in
    let same = λ (way : Way) (ok : _). reads-same (w0 way) (w1 way) (before way) (named.asked way (ok1 way ok)) in
    let same_kept = λ (way : Way) (ok : _). keeps-same (w0 way) (w1 way) (before way) (named.asked way (ok1 way ok)) in
    let again = λ (way : Way) (ok : _). c.in_ok-write_changed.ensures.again way ok
    ∙ (λ i. all_changed (rewritten (same way ok i) Changed.Choice) (zip ss (told way ok i)) ((c.deref_mut-2.ensures.value ∙ named.mentions way (ok1 way ok)) i))
    ∙ third-mentions (reading (w0 way)) ss in
    let read = with_items_is c.in_ok-named.named.mentions c.write_changed.new.mentions (c.write_changed.auto.mentions ∙ ap length c.deref_mut-2.ensures.value ∙ sym c.in_ok-named.named.mentions.ok.0) in
    let lasts = λ (way : Way) (ok : _). c.in_ok-write_changed.ensures.kept way ok
    ∙ (λ i. all_changed (rekept (same_kept way ok i) Changed.Choice) (zip ss (told way ok i)) ((c.deref_mut-3.ensures.value ∙ named.again way (ok1 way ok)) i))
    ∙ third-kept (reading (w0 way)) (keeping (w0 way)) ss in
    let held = with_items_is c.in_ok-named.named.again c.write_changed.new.again (c.write_changed.auto.again ∙ ap length c.deref_mut-3.ensures.value ∙ sym c.in_ok-named.named.again.ok.0) in
    record {
      firsts = λ way ok. ap (λ v. v.items) c.in_ok-with_suffixes.ensures.firsts ∙ named.firsts way (ok1 way ok);
      again = λ way ok. ap (λ v. v.items) c.in_ok-with_suffixes.ensures.again ∙ held ∙ lasts way ok;
      states = λ way ok. c.in_ok-with_suffixes.ensures.states ∙ kept ∙ third way ok;
      suffixes = λ way ok. c.in_ok-with_suffixes.ensures.suffixes ∙ ap suffixes (read ∙ again way ok);
      texts = λ way ok. c.in_ok-with_suffixes.ensures.texts ∙ ap (λ ms. map (text_of ms) ms) (read ∙ again way ok);
      asked = λ way ok. asked-more (w0 way) (w1 way) (w2 way) (before way) (flat_map (tasks_of Changed.Choice) (zip ss c.deref-3.result.now)) (named.asked way (ok1 way ok)) (c.in_ok-write_changed.ensures.asked way ok)
          ∙ ap (λ ts. asked_for (before way ++ ts) (w0 way)) (ap (λ ts. flat_map (tasks_of Changed.Choice) (zip ss ts)) (told way ok) ∙ tasks-are Changed.Choice (zip ss (third_table (reading (w0 way)) ss)));
      goes_on = g.M.WrittenBy.follows c.args.writer.now c.tell_by_names.new.writer c.write_changed.new.writer named.goes_on c.in_ok-write_changed.ensures.goes_on;
    }
