-- Requests are handed to the driver one after another.
use Rattle.std.proofs.Common.{◌≡◌, slice_get}
use Rattle.csl_driver.specs.DriverView.{driver_view}
use Rattle.document_requests.specs.Indexes.{request_at}
use Rattle.document_requests.specs.JobView.{asked_request_view}
use Rattle.document_requests.specs.Targets.{files_in, style_in}
use Rattle.document_requests.proofs.EachOf.{EachProgress}
use Rattle.document_answer.proofs.Resolved.{taken}
use Rattle.document_answer.proofs.filling.filled_driver.Given as goal

abbrev pub invariant-loop-request : goal.invariant-loop-request
invariant-loop-request l =
    record {
      handed : EachProgress asked_request_view (taken (files_in l.targets) (request_at (slice_get l.targets.entries.now) (style_in l.targets)))
          l.requests l.request-index (driver_view l.driver).requests;
      same_offset : (driver_view l.driver).offset ≡ l.offset;
    }
