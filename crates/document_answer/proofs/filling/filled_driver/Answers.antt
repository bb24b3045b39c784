-- One more request, an index that points to nothing, and the end.
use Rattle.std.proofs.Common.{◌∙◌, ap, slice_get}
use Rattle.document_requests.specs.Indexes.{request_at}
use Rattle.document_requests.specs.JobView.{asked_request_view, asked_requests_view}
use Rattle.document_requests.specs.Targets.{files_in, style_in}
use Rattle.document_requests.proofs.EachOf.{EachProgress-end, EachProgress-more, EachProgress-none}
use Rattle.document_answer.proofs.Resolved.{all-taken, none-taken, request-missing, request-taken, taken}
use Rattle.document_answer.proofs.filling.filled_driver.Goals as goal

pub loop-request-preserved : goal.loop-request-preserved
loop-request-preserved c =
    let locales = files_in c.args.targets in
    let request = request_at (slice_get c.args.targets.entries.now) (style_in c.args.targets) in
    record {
      handed = EachProgress-more asked_request_view (taken locales request) c.args.requests.now c.loop-request.request-index _ _ c.request-item.result _
          c.loop-request-test.true c.request-item.is
          (request-taken locales request (asked_request_view c.request-item.result) _ (rw c.in-Some.is at c.in_ok-made.ensures))
          (ap (λ d. d.requests) c.in_ok-take-in-Some.ensures.taken) c.loop-request.invariant.handed;
      same_offset = ap (λ d. d.offset) c.in_ok-take-in-Some.ensures.taken ∙ c.loop-request.invariant.same_offset;
    }

pub returns-in-None-clause-missing : goal.returns-in-None-clause-missing
returns-in-None-clause-missing c =
    let locales = files_in c.args.targets in
    let request = request_at (slice_get c.args.targets.entries.now) (style_in c.args.targets) in
    none-taken locales request (asked_requests_view c.args.requests.now)
    (EachProgress-none asked_request_view (taken locales request) c.args.requests.now c.loop-request.request-index _ c.request-item.result
    c.loop-request-test.true c.request-item.is c.loop-request.invariant.handed
    (request-missing locales request (asked_request_view c.request-item.result) (rw c.in-None.is at c.in_ok-made.ensures)))

pub returns-clause-requests : goal.returns-clause-requests
returns-clause-requests c =
    let locales = files_in c.args.targets in
    let request = request_at (slice_get c.args.targets.entries.now) (style_in c.args.targets) in
    all-taken locales request (asked_requests_view c.args.requests.now) _
    (EachProgress-end asked_request_view (taken locales request) c.args.requests.now c.loop-request.request-index _ c.loop-request-test.false c.loop-request.invariant.handed)
