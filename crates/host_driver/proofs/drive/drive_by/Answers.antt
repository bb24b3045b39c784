use Rattle.std.proofs.Common.{length, ap, subst, sym, ◌∙◌}
use Rattle.std.specs.Prelude.{◌==◌}
use Rattle.host_driver.specs.Driven.{IsLacking, IsWhole, asked_for_all}
use Rattle.host_driver.proofs.AllNamed.{all-named, earliest}
use Rattle.csl_driver.specs.JobView.{job_of}
use Rattle.host_memo.specs.Keys.{task_key}
use Rattle.host_memo.specs.Written.{found}
use Rattle.host_driver.specs.Table.{note_once}
use Rattle.host_memo.specs.declared.key.TaskKey.{TaskKey}
use Rattle.host_driver.proofs.MissingTasks.{all-missing, all-there, clash, empty}
use Rattle.driver_writers.specs.Writing.{WriterState, noted_all}
use Rattle.host_driver.proofs.drive.drive_by.Goals as goal

pub returns-then-is_empty-clause-driven : goal.returns-then-is_empty-clause-driven
returns-then-is_empty-clause-driven g c =
    let answers = g.T.EntryLike.answers in
    let job = job_of c.args.driver.now c.args.request.now in
    let table = found c.new-writer.result.written.now in
    let all = asked_for_all g.T.PartialEq.eq g.P.PartialEq.eq answers table c.args.mode job in
    let missing = c.answer_with.new.writer.missing.keys in
    let noted = ap (λ (s : WriterState g.row.T.Denot g.row.P.Denot TaskKey). s.notes) (c.in_ok-rendered.ensures.asked tt tt)
    ∙ ap (noted_all (λ task. note_once table (task_key answers task)) all) c.new-writer.ensures.nothing in
    subst (λ t. IsWhole g.T.PartialEq.eq g.P.PartialEq.eq answers (found t) c.args.mode job (c.in_ok-rendered.rendered, c.in_ok-rendered.account))
    c.new-writer.ensures.table (record {
      possible = c.in_ok-rendered.ensures.finished.possible;
      answer = c.in_ok-rendered.ensures.finished.answer tt tt;
      there = all-there table answers all missing noted (empty missing (sym c.is_empty.ensures ∙ c.if-is_empty.true));
    })

pub returns-clause-driven : goal.returns-clause-driven
returns-clause-driven g c =
    let answers = g.T.EntryLike.answers in
    let job = job_of c.args.driver.now c.args.request.now in
    let table = found c.new-writer.result.written.now in
    let all = asked_for_all g.T.PartialEq.eq g.P.PartialEq.eq answers table c.args.mode job in
    let missing = c.answer_with.new.writer.missing.keys in
    let noted = ap (λ (s : WriterState g.row.T.Denot g.row.P.Denot TaskKey). s.notes) (c.in_ok-rendered.ensures.asked tt tt)
    ∙ ap (noted_all (λ task. note_once table (task_key answers task)) all) c.new-writer.ensures.nothing in
    subst (λ t. IsLacking g.T.PartialEq.eq g.P.PartialEq.eq answers (found t) c.args.mode job missing)
    c.new-writer.ensures.table (record {
      possible = c.in_ok-rendered.ensures.finished.possible;
      each = all-missing table answers all missing noted;
      some = λ e. clash (ap (λ ks. length ks == 0) e) (sym c.is_empty.ensures ∙ c.if-is_empty.false);
      earliest = earliest table answers all missing noted c.key_equality_decides.ensures.key;
      all = all-named table answers all missing noted c.key_equality_decides.ensures.key;
    })
