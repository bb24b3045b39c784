use Rattle.mentions_laws.proofs.Long.{arranged-by-neighbours}
use Rattle.mentions_laws.proofs.laws.cites_are_arranged_by_neighbours.Goals as goal

pub returns : goal.returns
returns g c = λ numbers r positions. arranged-by-neighbours numbers r positions
