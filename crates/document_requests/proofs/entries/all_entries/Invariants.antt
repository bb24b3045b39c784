-- Entries are read one after another.
use Rattle.document_requests.specs.Entries.{entry_form}
use Rattle.document_values.proofs.Progress.{Progress}
use Rattle.document_requests.proofs.entries.all_entries.Given as goal

abbrev pub invariant-loop-place : goal.invariant-loop-place
invariant-loop-place l = Progress entry_form l.items l.place l.entries.items
