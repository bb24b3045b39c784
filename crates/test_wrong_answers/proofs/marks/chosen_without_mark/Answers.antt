use Rattle.rounds_runs.specs.declared.mode.RoundMode.{RoundMode}
use Rattle.test_wrong_answers.proofs.Told.{two-groups-begun}
use Rattle.test_wrong_answers.proofs.Unmarked.{chosen-of-none, one-chosen}
use Rattle.test_wrong_answers.specs.Rounds.{in_two_groups}
use Rattle.test_wrong_answers.specs.Silent.{writing}
use Rattle.test_wrong_answers.proofs.marks.chosen_without_mark.Goals as goal

pub returns-clause-refuted : goal.returns-clause-refuted
returns-clause-refuted c = chosen-of-none

pub returns-clause-right : goal.returns-clause-right
returns-clause-right c = c.states_go_on.ensures writing RoundMode.Three in_two_groups two-groups-begun

pub returns-clause-right_states : goal.returns-clause-right_states
returns-clause-right_states c = one-chosen
