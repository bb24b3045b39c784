use Rattle.test_wrong_answers.specs.Silent.{writing}
use Rattle.test_wrong_answers.proofs.Told.{alike-begun, alike-next, by-cite}
use Rattle.test_wrong_answers.specs.Rounds.{alike}
use Rattle.rounds_runs.specs.declared.mode.RoundMode.{RoundMode}
use Rattle.test_wrong_answers.proofs.rounds.suffix_by_cite.Goals as goal

pub returns-clause-refuted : goal.returns-clause-refuted
returns-clause-refuted c = by-cite

pub returns-clause-right : goal.returns-clause-right
returns-clause-right c = c.suffixes_stay.ensures writing RoundMode.Three alike alike-begun

pub returns-clause-right_states : goal.returns-clause-right_states
returns-clause-right_states c = alike-next
