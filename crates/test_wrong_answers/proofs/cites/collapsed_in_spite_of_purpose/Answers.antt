use Rattle.std.proofs.Common.{arith}
use Rattle.test_wrong_answers.proofs.AllRight.{exactly, purpose-plain}
use Rattle.test_wrong_answers.proofs.NotOwn.{collapsed-too}
use Rattle.test_wrong_answers.specs.Cites.{with_a_purpose, one_by_one}
use Rattle.test_wrong_answers.specs.Letters.{letters}
use Rattle.rounds_runs.specs.declared.mode.RoundMode.{RoundMode}
use Rattle.test_wrong_answers.proofs.cites.collapsed_in_spite_of_purpose.Goals as goal

pub returns-clause-refuted : goal.returns-clause-refuted
returns-clause-refuted c = collapsed-too

pub returns-clause-right : goal.returns-clause-right
returns-clause-right c = λ account has. c.answers_keep_laws.ensures letters RoundMode.Three with_a_purpose (one_by_one, account) (exactly 6 with_a_purpose one_by_one account (omega arith) purpose-plain has)
