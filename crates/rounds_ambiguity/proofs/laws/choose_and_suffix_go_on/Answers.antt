use Rattle.rounds_ambiguity.proofs.GroupLaws.{choose-go-on, suffixes-go-on}
use Rattle.rounds_ambiguity.proofs.laws.choose_and_suffix_go_on.Goals as goal

pub returns : goal.returns
returns g c = record { choose = choose-go-on g.T.PartialEq.eq; suffix = suffixes-go-on g.T.PartialEq.eq }
