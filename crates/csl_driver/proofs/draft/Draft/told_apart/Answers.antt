use Rattle.std.proofs.lemmas.Result.{on_ok_weaker}
use Rattle.csl_driver.specs.DraftView.{job_in}
use Rattle.csl_driver.proofs.CslMentions.{apart-asked, told-apart}
use Rattle.csl_driver.proofs.draft.Draft.told_apart.Goals as goal

pub returns : goal.returns
returns g c =
    let eq = g.T.PartialEq.eq in
    let job = job_in c.args.self in
    let are = c.requires in
    let Way = g.W.CiteWriter.Way in
    let start = λ (way : Way). g.W.CiteWriter.state c.args.writer.now way in
    let end = λ (way : Way). g.W.CiteWriter.state c.tell_apart.new.writer way in
    let before = λ (way : Way). g.W.CiteWriter.agrees c.args.writer.now way in
    let now = λ (way : Way). g.W.CiteWriter.agrees c.tell_apart.new.writer way in
    let told = c.tell_apart.ensures in
    record {
      told = told-apart g.T.EntryLike.answers eq job start now c.args.counter.now _ are c.tell_apart.result told.states told.suffixes told.texts told.firsts told.again;
      asked = apart-asked g.T.EntryLike.answers eq job start now c.args.counter.now _ are c.tell_apart.result before end c.tell_apart.new.counter told.asked told.goes_on;
      agreed = on_ok_weaker c.tell_apart.result (λ on way ok. (on way ok).0) told.goes_on;
    }
