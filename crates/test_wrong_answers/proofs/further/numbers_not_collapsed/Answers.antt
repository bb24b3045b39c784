use Rattle.std.proofs.Common.{refl}
use Rattle.test_wrong_answers.proofs.FurtherWrong.{not-drawn}
use Rattle.test_wrong_answers.specs.Further.{in_a_row}
use Rattle.test_wrong_answers.specs.Samples.{request_of}
use Rattle.test_wrong_answers.proofs.further.numbers_not_collapsed.Goals as goal

pub returns-clause-refuted : goal.returns-clause-refuted
returns-clause-refuted c = not-drawn

pub returns-clause-right : goal.returns-clause-right
returns-clause-right c = (c.what_is_to_collapse_does.ensures (request_of in_a_row)).numbers refl refl
