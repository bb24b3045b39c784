use Rattle.test_wrong_answers.proofs.Unmarked.{empty-unmarked}
use Rattle.test_wrong_answers.proofs.marks.counted_without_marks.Goals as goal

pub returns-clause-refuted : goal.returns-clause-refuted
returns-clause-refuted c = λ mode h. empty-unmarked mode h.marks

pub returns-clause-rounds : goal.returns-clause-rounds
returns-clause-rounds c = empty-unmarked
