use Rattle.std.proofs.Common.{arith}
use Rattle.test_wrong_answers.proofs.Four.{four}
use Rattle.test_wrong_answers.proofs.numbers.extra_renders.Goals as goal

pub returns-clause-refuted : goal.returns-clause-refuted
returns-clause-refuted c = λ h. absurd (omega (arith, h, four))

pub returns-clause-right : goal.returns-clause-right
returns-clause-right c = omega (arith, four)
