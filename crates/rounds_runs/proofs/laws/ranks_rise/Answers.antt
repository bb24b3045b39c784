use Rattle.rounds_runs.proofs.Risen.{ranks-rise}
use Rattle.rounds_runs.proofs.laws.ranks_rise.Goals as goal

pub returns : goal.returns
returns g c = λ writing firsts begun. ranks-rise g.T.PartialEq.eq g.met.T.Eq.laws writing firsts begun
