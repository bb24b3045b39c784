use Rattle.std.proofs.Common.{◌≡◌, [], ◌∷◌, IfOk, ap, subst, sym, ◌∙◌}
use Rattle.std.proofs.lemmas.Result.{IfOk-weaker, on_ok_weaker}
use Rattle.driver_lookup.specs.PropertiesView.{properties_view}
use Rattle.mentions_tables.specs.Asked.{first_kept}
use Rattle.driver_writers.specs.Tasks.{CiteTaskValue, cite_task}
use Rattle.mentions_cited.specs.Cited.{cited, first_task, task_in, with_properties}
use Rattle.mentions_cited.specs.Kept.{written_mention}
use Rattle.mentions_cited.specs.declared.kept.KeptOfMention.{KeptOfMention}
use Rattle.mentions_cited.proofs.AskedFor.{again-task, cited-after, same-task}
use Rattle.mentions_cited.proofs.WritingOn.{goes_on_where_ok}
use Rattle.mentions_cited.proofs.asking.CiteMentionWrittenByRenders.write_again.Goals as goal

pub returns-then-not-is_told : goal.returns-then-not-is_told
returns-then-not-is_told g c =
    let Way = g.W.CiteWriter.Way in
    let w = λ (way : Way). g.W.CiteWriter.state c.args.writer.now way in
    let v = λ (way : Way). g.W.CiteWriter.state c.written_by.new.writer way in
    let m = c.args.self.now in
    let told = c.args.told.now in
    let task = λ (way : Way). same-task (w way) m told (sym c.is_told.ensures ∙ c.if-not-is_told.true) in
    record {
      written = IfOk-weaker c.written_by.result _ _ (λ x all way ok h. subst (λ (t : CiteTaskValue g.row.T.Denot g.row.P.Denot). x ≡ written_mention ((w way).cite t)) (task way) (all way ok)) c.written_by.ensures.written;
      asked = on_ok_weaker c.written_by.result (λ all way ok h. cited-after (w way) (v way) c.args.counter.now c.written_by.new.counter m told (first_task m) (task way) (all way ok)) c.written_by.ensures.asked;
      goes_on = goes_on_where_ok (λ way. g.W.CiteWriter.agrees c.args.writer.now way) (λ way. g.W.CiteWriter.agrees c.written_by.new.writer way) w v c.args.counter.now c.written_by.new.counter (cite_task (first_task m) ∷ [])
          c.written_by.result c.written_by.ensures.agreed c.written_by.ensures.asked;
    }

pub returns : goal.returns
returns g c =
    let Way = g.W.CiteWriter.Way in
    let w = λ (way : Way). g.W.CiteWriter.state c.args.writer.now way in
    let v = λ (way : Way). g.W.CiteWriter.state c.written_by-2.new.writer way in
    let n = c.args.counter.now in
    let m = c.args.self.now in
    let told = c.args.told.now in
    let first = c.args.first.now in
    let properties = properties_view c.in_ok-properties.properties in
    let task : (way : Way) → first ≡ first_kept (cited (w way) n) m → with_properties m properties ≡ task_in (w way).cite m told =
    λ way h. again-task (w way) m told first.usage properties (sym c.is_told.ensures ∙ c.if-not-is_told.false) (ap (λ (k : KeptOfMention). k.usage) h) c.in_ok-properties.ensures in
    record {
      written = IfOk-weaker c.written_by-2.result _ _ (λ x all way ok h. subst (λ (t : CiteTaskValue g.row.T.Denot g.row.P.Denot). x ≡ written_mention ((w way).cite t)) (task way h) (all way ok)) c.written_by-2.ensures.written;
      asked = on_ok_weaker c.written_by-2.result (λ all way ok h. cited-after (w way) (v way) n c.written_by-2.new.counter m told (with_properties m properties) (task way h) (all way ok)) c.written_by-2.ensures.asked;
      goes_on = goes_on_where_ok (λ way. g.W.CiteWriter.agrees c.args.writer.now way) (λ way. g.W.CiteWriter.agrees c.written_by-2.new.writer way) w v c.args.counter.now c.written_by-2.new.counter (cite_task (with_properties m properties) ∷ [])
          c.written_by-2.result c.written_by-2.ensures.agreed c.written_by-2.ensures.asked;
    }
