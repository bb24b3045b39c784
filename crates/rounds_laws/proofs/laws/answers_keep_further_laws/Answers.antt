use Rattle.rounds_laws.proofs.Answers.{keeps-further}
use Rattle.rounds_laws.proofs.laws.answers_keep_further_laws.Goals as goal

pub returns : goal.returns
returns g c = λ writing mode job r exact.
    keeps-further g.T.PartialEq.eq g.met.T.Eq.laws writing g.P.PartialEq.eq mode job r exact (c.answers_keep_laws.ensures writing mode job r exact) (c.runs_are_lawful.ensures writing)
