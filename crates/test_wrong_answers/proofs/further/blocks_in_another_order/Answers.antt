use Rattle.test_wrong_answers.proofs.FurtherWrong.{not-backwards, not-run-together}
use Rattle.test_wrong_answers.specs.Orders.{as_cited}
use Rattle.test_wrong_answers.specs.Samples.{request_of}
use Rattle.test_wrong_answers.proofs.further.blocks_in_another_order.Goals as goal

pub returns-clause-backwards : goal.returns-clause-backwards
returns-clause-backwards c = not-backwards

pub returns-clause-run_together : goal.returns-clause-run_together
returns-clause-run_together c = not-run-together

pub returns-clause-right : goal.returns-clause-right
returns-clause-right c = c.grouped_cites_form_blocks.ensures (request_of as_cited)
