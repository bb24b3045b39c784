use Rattle.std.proofs.Common.{arith}
use Rattle.test_wrong_answers.proofs.AllRight.{exactly, hidden-plain}
use Rattle.test_wrong_answers.proofs.NotOwn.{shown-hidden}
use Rattle.test_wrong_answers.specs.Cites.{hidden_one, nothing_shown}
use Rattle.test_wrong_answers.specs.Letters.{letters}
use Rattle.rounds_runs.specs.declared.mode.RoundMode.{RoundMode}
use Rattle.test_wrong_answers.proofs.cites.shown_in_spite_of_the_caller.Goals as goal

pub returns-clause-refuted : goal.returns-clause-refuted
returns-clause-refuted c = shown-hidden

pub returns-clause-right : goal.returns-clause-right
returns-clause-right c = λ account has. c.answers_keep_laws.ensures letters RoundMode.Three hidden_one (nothing_shown, account) (exactly 2 hidden_one nothing_shown account (omega arith) hidden-plain has)
