use Rattle.std.proofs.Common.{refl}
use Rattle.test_wrong_answers.proofs.FurtherWrong.{no-dash}
use Rattle.test_wrong_answers.specs.Further.{apart}
use Rattle.test_wrong_answers.specs.Samples.{request_of}
use Rattle.test_wrong_answers.proofs.further.dash_without_hidden_numbers.Goals as goal

pub returns-clause-refuted : goal.returns-clause-refuted
returns-clause-refuted c = no-dash

pub returns-clause-right : goal.returns-clause-right
returns-clause-right c = (c.what_is_to_collapse_does.ensures (request_of apart)).numbers refl refl
