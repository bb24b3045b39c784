use Rattle.std.proofs.Common.{[], ◌∷◌, refl}
use Rattle.std.proofs.lemmas.Result.{on_ok_weaker}
use Rattle.mentions_tables.specs.Asked.{untold}
use Rattle.mentions_cited.specs.Cited.{first_task}
use Rattle.driver_writers.specs.Tasks.{cite_task}
use Rattle.mentions_cited.proofs.AskedFor.{cited-after}
use Rattle.mentions_cited.proofs.WritingOn.{goes_on_where_ok}
use Rattle.mentions_cited.proofs.asking.CiteMentionWrittenByRenders.write_first.Goals as goal

pub returns : goal.returns
returns g c =
    let Way = g.W.CiteWriter.Way in
    let w = λ (way : Way). g.W.CiteWriter.state c.args.writer.now way in
    let v = λ (way : Way). g.W.CiteWriter.state c.written_by.new.writer way in
    let m = c.args.self.now in
    record {
      written = c.written_by.ensures.written;
      asked = on_ok_weaker c.written_by.result (λ all way ok. cited-after (w way) (v way) c.args.counter.now c.written_by.new.counter m untold (first_task m) refl (all way ok)) c.written_by.ensures.asked;
      goes_on = goes_on_where_ok (λ way. g.W.CiteWriter.agrees c.args.writer.now way) (λ way. g.W.CiteWriter.agrees c.written_by.new.writer way) w v c.args.counter.now c.written_by.new.counter (cite_task (first_task m) ∷ [])
          c.written_by.result c.written_by.ensures.agreed c.written_by.ensures.asked;
    }
