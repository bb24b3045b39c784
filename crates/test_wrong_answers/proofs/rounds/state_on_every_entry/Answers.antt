use Rattle.std.proofs.Common.{◌-◌, length, subst}
use Rattle.rounds_runs.specs.RunLaws.{NothingLeft}
use Rattle.rounds_runs.specs.declared.mode.RoundMode.{RoundMode}
use Rattle.test_wrong_answers.proofs.Told.{none-marked, on-every, unlike-begun}
use Rattle.test_wrong_answers.specs.Rounds.{unlike}
use Rattle.test_wrong_answers.specs.Silent.{same_sample, writing}
use Rattle.test_wrong_answers.proofs.rounds.state_on_every_entry.Goals as goal

pub returns-clause-refuted : goal.returns-clause-refuted
returns-clause-refuted c = on-every

pub returns-clause-right : goal.returns-clause-right
returns-clause-right c =
    subst (λ ts. NothingLeft RoundMode.Three same_sample writing unlike ts (length ts - 1)) none-marked
    (c.nothing_is_left.ensures writing RoundMode.Three unlike unlike-begun)
