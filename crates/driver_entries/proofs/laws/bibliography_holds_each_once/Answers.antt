use Rattle.driver_entries.proofs.Once.{holds_each_once}
use Rattle.driver_entries.proofs.laws.bibliography_holds_each_once.Goals as goal

pub returns : goal.returns
returns g c = holds_each_once g.T.PartialEq.eq g.met.T.Eq.laws
