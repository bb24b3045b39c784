use Rattle.test_wrong_answers.proofs.Unmarked.{never-marked, not-in-order, seven-of-none, seven-unmarked, undated-begun}
use Rattle.test_wrong_answers.specs.Marks.{undated}
use Rattle.test_wrong_answers.specs.Silent.{writing}
use Rattle.test_wrong_answers.proofs.marks.both_get_seven.Goals as goal

pub returns-clause-refuted : goal.returns-clause-refuted
returns-clause-refuted c = λ mode h. seven-unmarked mode h.marks

pub returns-clause-states : goal.returns-clause-states
returns-clause-states c = seven-of-none

pub returns-clause-rounds : goal.returns-clause-rounds
returns-clause-rounds c = seven-unmarked

pub returns-clause-suffixes : goal.returns-clause-suffixes
returns-clause-suffixes c = not-in-order

pub returns-clause-right : goal.returns-clause-right
returns-clause-right c = λ mode. never-marked mode (c.states_go_on.ensures writing mode undated undated-begun) (c.rounds_mark.ensures writing mode undated)
    (c.suffixes_stay.ensures writing mode undated undated-begun) (c.nothing_is_left.ensures writing mode undated undated-begun)
    (c.ranks_rise.ensures writing undated undated-begun)
