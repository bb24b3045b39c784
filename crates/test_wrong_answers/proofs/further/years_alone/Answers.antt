use Rattle.std.proofs.Common.{refl}
use Rattle.test_wrong_answers.proofs.FurtherWrong.{not-alone}
use Rattle.test_wrong_answers.specs.Further.{of_one_block, request_by_year}
use Rattle.test_wrong_answers.proofs.further.years_alone.Goals as goal

pub returns-clause-refuted : goal.returns-clause-refuted
returns-clause-refuted c = not-alone

pub returns-clause-right : goal.returns-clause-right
returns-clause-right c = (c.what_is_to_collapse_does.ensures (request_by_year of_one_block)).years refl refl
