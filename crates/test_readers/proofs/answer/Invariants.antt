use Rattle.std.proofs.Common.{length}
use Rattle.test_readers.proofs.answer.Given as goal

abbrev pub decreases-documents : goal.decreases-documents
decreases-documents g l = length l.rest
