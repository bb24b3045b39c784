use Rattle.mentions_laws.proofs.Comes.{keeps-mention-laws}
use Rattle.mentions_laws.proofs.laws.csl_answers_keep_mention_laws.Goals as goal

pub returns : goal.returns
returns g c = λ writing job r exact. keeps-mention-laws g.T.PartialEq.eq g.met.T.Eq.laws g.P.PartialEq.eq writing job r exact
