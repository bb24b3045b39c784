use Rattle.csl_driver.specs.JobView.{job_of}
use Rattle.csl_writing.specs.LayoutWriting.{layout_writing}
use Rattle.test_callers.proofs.csl_clients.letters_in_csl_answer.Goals as goal

pub returns : goal.returns
returns g c = λ alike adds.
    c.in_ok-letters.ensures (job_of c.args.driver c.args.request) (layout_writing g.T.EntryLike.answers) c.in_ok-rendered.rendered c.in_ok-rendered.ensures.answer.laws alike adds
