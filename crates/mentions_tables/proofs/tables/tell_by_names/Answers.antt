use Rattle.std.proofs.Common.{ap, length, map, sym, ◌++◌, ◌∙◌}
use Rattle.std.specs.Prelude.{flat_map}
use Rattle.std.specs.List.{zip}
use Rattle.std.proofs.Math.ListN.{length-map}
use Rattle.std.proofs.lemmas.List.{with_items_is}
use Rattle.mentions_groups.specs.Groups.{group_of}
use Rattle.mentions_names.specs.Told.{told_by_names}
use Rattle.mentions_tables.specs.Asked.{asked_for, keeping, reading}
use Rattle.mentions_tables.specs.Steps.{all_changed, in_group, rekept, rewritten, tasks_of}
use Rattle.mentions_tables.specs.Tables.{first_tasks, kept_at_first, named, second_table}
use Rattle.mentions_tables.specs.declared.changed.Changed.{Changed}
use Rattle.mentions_tables.proofs.Asking.{asked-more, keeps-same, reads-same}
use Rattle.mentions_tables.proofs.Joined.{grouped-are, renamed-are, second-is, second-kept, second-length, tasks-are}
use Rattle.mentions_tables.proofs.tables.tell_by_names.Goals as goal

pub told_by_names-requires : goal.told_by_names-requires
told_by_names-requires g c =
    let some = g.met.M.WrittenBy.some_way c.write_firsts.new.writer in
    let first = c.in_ok-firsts.ensures.firsts some.0 some.1 in
    ap length (c.deref.ensures.value ∙ first.mentions) ∙ length-map c.args.subjects.now _ ∙ sym (ap length (c.deref_mut.ensures.value ∙ first.named) ∙ length-map c.args.subjects.now _)

pub write_changed-requires : goal.write_changed-requires
write_changed-requires g c =
    let Way = g.M.WrittenBy.Way in
    let some = g.met.M.WrittenBy.some_way c.write_firsts.new.writer in
    let w0 = λ (way : Way). g.M.WrittenBy.writing c.args.writer.now c.args.counter.now way in
    let w1 = λ (way : Way). g.M.WrittenBy.writing c.write_firsts.new.writer c.write_firsts.new.counter way in
    let w = w0 some.0 in
    let ss = c.args.subjects.now in
    let first = c.in_ok-firsts.ensures.firsts some.0 some.1 in
    let ms = c.deref.result.now in
    let ms_is = c.deref.ensures.value ∙ first.mentions in
    let grouped = ap (all_changed in_group (map (group_of ms) ms)) (c.deref_mut.ensures.value ∙ first.named) ∙ grouped-are (reading w) ss ms ms_is in
    let states = c.in_ok-states.ensures ∙ second-is (reading w) ss (all_changed in_group (map (group_of ms) ms) c.deref_mut.result.now) grouped in
    record {
      states = second-length (reading w) ss ∙ sym (ap length (c.deref-2.ensures.value ∙ states));
      firsts = sym (ap length (c.deref-3.ensures.value ∙ first.kept) ∙ length-map ss _);
      mentions = sym (ap length (c.deref_mut-2.ensures.value ∙ first.mentions) ∙ length-map ss _);
      again = sym (ap length (c.deref_mut-3.ensures.value ∙ first.again) ∙ length-map ss _);
      kept = λ way ok. c.deref-3.ensures.value ∙ (c.in_ok-firsts.ensures.firsts way ok).kept
          ∙ ap (λ k. kept_at_first k ss) (sym (keeps-same (w0 way) (w1 way) (first_tasks ss) (c.in_ok-firsts.ensures.asked way ok)));
    }

pub returns : goal.returns
returns g c =
    let Way = g.M.WrittenBy.Way in
    let w0 = λ (way : Way). g.M.WrittenBy.writing c.args.writer.now c.args.counter.now way in
    let w1 = λ (way : Way). g.M.WrittenBy.writing c.write_firsts.new.writer c.write_firsts.new.counter way in
    let w2 = λ (way : Way). g.M.WrittenBy.writing c.write_changed.new.writer c.write_changed.new.counter way in
    let ss = c.args.subjects.now in
    let ms = c.deref.result.now in
    let ok1 = λ (way : Way) (ok : g.M.WrittenBy.agrees c.write_changed.new.writer way).
    g.M.WrittenBy.agreed_before c.write_firsts.new.writer c.write_changed.new.writer way c.in_ok-write_changed.ensures.goes_on ok in
    let first = λ (way : Way) (ok : _). c.in_ok-firsts.ensures.firsts way (ok1 way ok) in
    let begun = λ (way : Way) (ok : _). c.in_ok-firsts.ensures.asked way (ok1 way ok) in
    let grouped = λ (way : Way) (ok : _). ap (all_changed in_group (map (group_of ms) ms)) (c.deref_mut.ensures.value ∙ (first way ok).named) ∙ grouped-are (reading (w0 way)) ss ms (c.deref.ensures.value ∙ (first way ok).mentions) in
    let states = λ (way : Way) (ok : _). c.in_ok-states.ensures ∙ second-is (reading (w0 way)) ss (all_changed in_group (map (group_of ms) ms) c.deref_mut.result.now) (grouped way ok) in
    let same = λ (way : Way) (ok : _). reads-same (w0 way) (w1 way) (first_tasks ss) (begun way ok) in
    let same_kept = λ (way : Way) (ok : _). keeps-same (w0 way) (w1 way) (first_tasks ss) (begun way ok) in
    let told = λ (way : Way) (ok : _). c.deref-2.ensures.value ∙ states way ok in
    let again = λ (way : Way) (ok : _). c.in_ok-write_changed.ensures.again way ok
    ∙ (λ i. all_changed (rewritten (same way ok i) Changed.Names) (zip ss (told way ok i)) ((c.deref_mut-2.ensures.value ∙ (first way ok).mentions) i))
    ∙ renamed-are (reading (w0 way)) (λ s. told_by_names (map (named (reading (w0 way)) ss) ss) (named (reading (w0 way)) ss s)) ss in
    let kept = with_items_is c.in_ok-firsts.firsts.mentions c.write_changed.new.mentions (c.write_changed.auto.mentions ∙ ap length c.deref_mut-2.ensures.value ∙ sym c.in_ok-firsts.firsts.mentions.ok.0) in
    let lasts = λ (way : Way) (ok : _). c.in_ok-write_changed.ensures.kept way ok
    ∙ (λ i. all_changed (rekept (same_kept way ok i) Changed.Names) (zip ss (told way ok i)) ((c.deref_mut-3.ensures.value ∙ (first way ok).again) i))
    ∙ second-kept (reading (w0 way)) (keeping (w0 way)) ss in
    let held = with_items_is c.in_ok-firsts.firsts.again c.write_changed.new.again (c.write_changed.auto.again ∙ ap length c.deref_mut-3.ensures.value ∙ sym c.in_ok-firsts.firsts.again.ok.0) in
    record {
      mentions = λ way ok. kept ∙ again way ok;
      tested = λ way ok. (first way ok).tested;
      states = λ way ok. states way ok;
      firsts = λ way ok. (first way ok).kept;
      again = λ way ok. held ∙ lasts way ok;
      asked = λ way ok. asked-more (w0 way) (w1 way) (w2 way) (first_tasks ss) (flat_map (tasks_of Changed.Names) (zip ss c.deref-2.result.now)) (begun way ok) (c.in_ok-write_changed.ensures.asked way ok)
          ∙ ap (λ ts. asked_for (first_tasks ss ++ ts) (w0 way)) (ap (λ ts. flat_map (tasks_of Changed.Names) (zip ss ts)) (told way ok) ∙ tasks-are Changed.Names (zip ss (second_table (reading (w0 way)) ss)));
      goes_on = g.M.WrittenBy.follows c.args.writer.now c.write_firsts.new.writer c.write_changed.new.writer c.in_ok-firsts.ensures.goes_on c.in_ok-write_changed.ensures.goes_on;
    }
