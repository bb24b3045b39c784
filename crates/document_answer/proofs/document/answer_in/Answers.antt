use Rattle.std.proofs.Common.{ap, sym, ◌∙◌}
use Rattle.csl_driver.specs.JobView.{job_of}
use Rattle.document_answer.specs.Run.{answer_in}
use Rattle.document_answer.proofs.document.answer_in.Goals as goal

pub returns-in-Mode : goal.returns-in-Mode
returns-in-Mode c =
    let finished = c.in_ok-rendered-in-Mode.ensures.finished in
    let job = job_of c.args.driver.now c.args.request.now in
    record {
      answer = (finished.answer tt tt).exact.ok ∙ sym (ap (λ rounds. answer_in rounds job) c.in-Mode.is);
      possible = finished.possible;
      refused = tt;
    }

pub returns : goal.returns
returns c =
    let finished = c.in_ok-rendered-in-Csl.ensures.finished in
    let job = job_of c.args.driver.now c.args.request.now in
    record {
      answer = (finished.answer tt tt).exact.ok ∙ sym (ap (λ rounds. answer_in rounds job) c.in-Csl.is);
      possible = finished.possible;
      refused = tt;
    }
