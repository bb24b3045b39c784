use Rattle.std.proofs.Common.{ap, ◌∙◌}
use Rattle.csl_driver.specs.JobView.{job_of}
use Rattle.driver_writers.specs.Writing.{WriterState}
use Rattle.host_driver.specs.Driven.{csl_asked_for_all}
use Rattle.host_memo.specs.Memo.{agrees_in, keys_noted, way_in}
use Rattle.host_memo.specs.Written.{found}
use Rattle.host_memo.specs.declared.key.TaskKey.{TaskKey}
use Rattle.host_driver.proofs.AllWritten.{all-written}
use Rattle.host_driver.proofs.filling.answer_csl_by.Goals as goal

pub returns-clause-asked : goal.returns-clause-asked
returns-clause-asked g c =
    let table = found c.answer_csl_with.new.writer.written in
    let job = job_of c.args.driver.now c.args.request.now in
    let answers = g.T.EntryLike.answers in
    ap (λ (s : WriterState g.row.T.Denot g.row.P.Denot TaskKey). s.notes) (c.in_ok-rendered.ensures.asked (way_in table) (agrees_in table))
    ∙ ap (keys_noted answers (csl_asked_for_all g.T.PartialEq.eq g.P.PartialEq.eq answers table job)) c.new-memo.ensures.nothing

pub returns-clause-whole : goal.returns-clause-whole
returns-clause-whole g c =
    let written = c.answer_csl_with.new.writer.written in
    let table = found written in
    let job = job_of c.args.driver.now c.args.request.now in
    let answers = g.T.EntryLike.answers in
    record {
      possible = c.in_ok-rendered.ensures.finished.possible;
      answer = c.in_ok-rendered.ensures.finished.answer (way_in table) (agrees_in table);
      there = all-written c.key_equality_decides.ensures.key answers written (csl_asked_for_all g.T.PartialEq.eq g.P.PartialEq.eq answers table job) (returns-clause-asked g c);
    }
