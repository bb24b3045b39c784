-- Names are read one after another.
use Rattle.document_values.specs.Names.{one_of, rows_view}
use Rattle.document_values.proofs.Progress.{Progress}
use Rattle.document_values.proofs.words.all_named.Given as goal

abbrev pub invariant-loop-place : goal.invariant-loop-place
invariant-loop-place g l = Progress (one_of (rows_view l.rows)) l.items l.place l.found.items
