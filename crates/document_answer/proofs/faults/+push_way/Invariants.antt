-- A way is written from its outermost step on: each call has one step less.
use Rattle.std.proofs.Common.{length}
use Rattle.document_answer.proofs.faults.+push_way.Given as goal

abbrev pub decreases-push_way : goal.decreases-push_way
decreases-push_way l = length l.way.now
