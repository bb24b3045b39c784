use Rattle.test_wrong_answers.specs.Silent.{writing}
use Rattle.rounds_runs.specs.declared.mode.RoundMode.{RoundMode}
use Rattle.test_wrong_answers.proofs.Told.{at-once, chosen-next, two-groups-begun}
use Rattle.test_wrong_answers.specs.Rounds.{in_two_groups}
use Rattle.test_wrong_answers.proofs.rounds.later_mark_overwrites.Goals as goal

pub returns-clause-refuted : goal.returns-clause-refuted
returns-clause-refuted c = at-once

pub returns-clause-right : goal.returns-clause-right
returns-clause-right c = c.states_go_on.ensures writing RoundMode.Three in_two_groups two-groups-begun

pub returns-clause-right_state : goal.returns-clause-right_state
returns-clause-right_state c = chosen-next
