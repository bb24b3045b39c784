use Rattle.rounds_laws.proofs.Drawn.{do-collapse}
use Rattle.rounds_laws.proofs.laws.what_is_to_collapse_does.Goals as goal

pub returns : goal.returns
returns g c = do-collapse
