use Rattle.test_wrong_answers.proofs.Drawn.{over-a-gap}
use Rattle.test_wrong_answers.specs.Runs.{with_a_gap}
use Rattle.test_wrong_answers.specs.Samples.{request_of}
use Rattle.test_wrong_answers.proofs.runs.run_over_a_gap.Goals as goal

pub returns-clause-refuted : goal.returns-clause-refuted
returns-clause-refuted c = over-a-gap

pub returns-clause-right : goal.returns-clause-right
returns-clause-right c = c.collapsed_can_be_read_back.ensures (request_of with_a_gap)
