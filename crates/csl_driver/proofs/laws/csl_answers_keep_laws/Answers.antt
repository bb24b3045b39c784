use Rattle.csl_driver.proofs.CslComes.{keeps-csl-laws}
use Rattle.csl_driver.proofs.laws.csl_answers_keep_laws.Goals as goal

pub returns : goal.returns
returns g c = λ writing job r exact. keeps-csl-laws g.T.PartialEq.eq g.met.T.Eq.laws g.P.PartialEq.eq writing job r exact
