use Rattle.test_wrong_answers.proofs.Told.{later}
use Rattle.test_wrong_answers.proofs.rounds.later_round_overwrites.Goals as goal

pub returns : goal.returns
returns c = record { refuted = later }
