-- Requests are read one after another.
use Rattle.document_requests.specs.JobView.{asked_requests_view}
use Rattle.document_requests.specs.Finders.{text_in}
use Rattle.document_requests.specs.Requests.{request_form}
use Rattle.document_values.proofs.Progress.{Progress}
use Rattle.document_requests.proofs.requests.all_requests.Given as goal

abbrev pub invariant-loop-place : goal.invariant-loop-place
invariant-loop-place l =
    Progress (request_form (text_in l.styles) (text_in l.entries) l.rounds) l.items l.place (asked_requests_view l.requests.items)
