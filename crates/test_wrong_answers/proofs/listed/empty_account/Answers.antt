use Rattle.test_wrong_answers.proofs.ListedWrong.{no-entries}
use Rattle.test_wrong_answers.proofs.listed.empty_account.Goals as goal

pub returns : goal.returns
returns g c = record { refuted = λ writing mode job answer account none some laws. some (no-entries g.T.PartialEq.eq g.P.PartialEq.eq writing mode job answer account none laws) }
