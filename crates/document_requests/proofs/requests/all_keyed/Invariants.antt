-- Keys are looked up one after another.
use Rattle.document_values.specs.Words.{name_form}
use Rattle.document_requests.specs.Finders.{text_in}
use Rattle.document_values.proofs.Progress.{Progress}
use Rattle.document_requests.proofs.requests.all_keyed.Given as goal

abbrev pub invariant-loop-place : goal.invariant-loop-place
invariant-loop-place l = Progress (name_form (text_in l.entries)) l.items l.place l.found.items
