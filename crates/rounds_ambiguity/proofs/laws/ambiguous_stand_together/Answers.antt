use Rattle.rounds_ambiguity.proofs.GroupLaws.{no-suffix, stand-together}
use Rattle.rounds_ambiguity.proofs.laws.ambiguous_stand_together.Goals as goal

pub returns : goal.returns
returns g c = record { without_suffix = no-suffix g.T.PartialEq.eq; together = stand-together g.T.PartialEq.eq g.met.T.Eq.laws }
