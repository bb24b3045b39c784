use Rattle.rounds_ambiguity.proofs.GroupLaws.{count-entries}
use Rattle.rounds_ambiguity.proofs.laws.suffixes_count_entries.Goals as goal

pub returns : goal.returns
returns g c = count-entries g.T.PartialEq.eq g.met.T.Eq.laws
