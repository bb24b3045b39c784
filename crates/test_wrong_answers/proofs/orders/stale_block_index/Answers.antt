use Rattle.test_wrong_answers.proofs.Adjacent.{adjacent, not-adjacent}
use Rattle.test_wrong_answers.proofs.orders.stale_block_index.Goals as goal

pub returns-clause-refuted : goal.returns-clause-refuted
returns-clause-refuted c = not-adjacent

pub returns-clause-right : goal.returns-clause-right
returns-clause-right c = adjacent
