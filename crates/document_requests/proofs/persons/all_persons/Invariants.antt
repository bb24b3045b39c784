-- Persons are read one after another.
use Rattle.document_requests.specs.Entries.{person_form}
use Rattle.document_values.proofs.Progress.{Progress}
use Rattle.document_requests.proofs.persons.all_persons.Given as goal

abbrev pub invariant-loop-place : goal.invariant-loop-place
invariant-loop-place l = Progress person_form l.items l.place l.persons.items
