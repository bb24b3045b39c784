-- Cites are read one after another.
use Rattle.document_requests.specs.JobView.{asked_cites_view}
use Rattle.document_requests.specs.Finders.{text_in}
use Rattle.document_requests.specs.Requests.{item_form}
use Rattle.document_values.proofs.Progress.{Progress}
use Rattle.document_requests.proofs.requests.all_cites.Given as goal

abbrev pub invariant-loop-place : goal.invariant-loop-place
invariant-loop-place l = Progress (item_form (text_in l.entries) l.rounds) l.items l.place (asked_cites_view l.cites.items)
