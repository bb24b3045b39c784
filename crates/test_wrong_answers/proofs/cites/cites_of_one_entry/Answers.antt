use Rattle.std.proofs.Common.{arith}
use Rattle.test_wrong_answers.proofs.AllRight.{exactly, two-plain}
use Rattle.test_wrong_answers.proofs.NotOwn.{first-twice}
use Rattle.test_wrong_answers.specs.Cites.{two, each_its_own}
use Rattle.test_wrong_answers.specs.Letters.{letters}
use Rattle.rounds_runs.specs.declared.mode.RoundMode.{RoundMode}
use Rattle.test_wrong_answers.proofs.cites.cites_of_one_entry.Goals as goal

pub returns-clause-refuted : goal.returns-clause-refuted
returns-clause-refuted c = first-twice

pub returns-clause-right : goal.returns-clause-right
returns-clause-right c = λ account has. c.answers_keep_laws.ensures letters RoundMode.Three two (each_its_own, account) (exactly 4 two each_its_own account (omega arith) two-plain has)
