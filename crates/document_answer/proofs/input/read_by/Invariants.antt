-- The input is read to its end.
use Rattle.std.proofs.Common.{length}
use Rattle.document_answer.proofs.Consumed.{Reading}
use Rattle.document_answer.proofs.input.read_by.Given as goal

abbrev pub invariant-loop : goal.invariant-loop
invariant-loop g l = Reading (g.R.Read.remaining l.fn.reader) (g.R.Read.remaining l.reader) l.bytes.items (length l.fn.buffer) (length l.buffer)
