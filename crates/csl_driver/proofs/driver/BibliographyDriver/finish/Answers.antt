use Rattle.csl_writing.specs.LayoutWriting.{layout_writing}
use Rattle.std.proofs.Common.{◌≡◌}
use Rattle.csl_driver.specs.Answer.{rendered}
use Rattle.csl_driver.specs.JobView.{job_of}
use Rattle.csl_driver.specs.Promised.{IsAnswer}
use Rattle.csl_driver.proofs.Promises.{answered-too}
use Rattle.rounds_runs.specs.declared.mode.RoundMode.{RoundMode}
use Rattle.csl_driver.proofs.driver.BibliographyDriver.finish.Goals as goal

pub returns : goal.returns
returns g c =
    let eq = g.T.PartialEq.eq in
    let peq = g.P.PartialEq.eq in
    let writing = (layout_writing g.T.EntryLike.answers) in
    let job = job_of c.args.self c.args.request in
    answered-too eq job (IsAnswer eq peq writing RoundMode.Three job) (λ r. r ≡ rendered eq peq writing RoundMode.Three job) _ _ (λ h. h.exact.ok) c.in_ok-rendered.ensures
