use Rattle.std.proofs.Common.{refl, ap, arith}
use Rattle.std.specs.Prelude.{slice_index}
use Rattle.test_wrong_answers.proofs.Differ.{above}
use Rattle.test_wrong_answers.proofs.numbers.numbers_before_grouping.Goals as goal

pub returns-clause-refuted : goal.returns-clause-refuted
returns-clause-refuted c = λ h. above 2 1 (omega arith) (ap (λ l. slice_index l 1) h)

pub returns-clause-right : goal.returns-clause-right
returns-clause-right c = refl
