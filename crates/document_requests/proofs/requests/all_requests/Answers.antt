-- One more request was read.
use Rattle.document_requests.specs.JobView.{asked_request_view}
use Rattle.document_requests.specs.Finders.{text_in}
use Rattle.document_requests.specs.Requests.{request_form}
use Rattle.document_values.proofs.Progress.{Progress-pushed}
use Rattle.document_requests.proofs.requests.all_requests.Goals as goal

pub loop-place-preserved : goal.loop-place-preserved
loop-place-preserved c =
    Progress-pushed (request_form (text_in c.args.styles.now) (text_in c.args.entries.now) c.args.rounds) asked_request_view _ _ _ _ _ _
    c.loop-place-test.true c.index-items-place.is c.in-Ok.ensures.read c.in_ok-push-in-Ok.ensures.items c.loop-place.invariant
