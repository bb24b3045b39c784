use Rattle.rounds_runs.proofs.Marking.{rounds-mark}
use Rattle.rounds_runs.proofs.laws.rounds_mark.Goals as goal

pub returns : goal.returns
returns g c = λ writing mode firsts. rounds-mark mode g.T.PartialEq.eq writing firsts
