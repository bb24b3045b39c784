use Rattle.std.proofs.Common.{map}
use Rattle.driver_passes.specs.RequestView.{request_view}
use Rattle.mentions_cited.proofs.Cutting.{parts-all}
use Rattle.mentions_cited.proofs.handed.by_request.Goals as goal

pub returns : goal.returns
returns g c =
    parts-all request_view c.args.requests.now c.loop-request.request-index c.loop-request.rest.now (map (λ n. n.items) c.loop-request.parts.items) _ c.loop-request-test.false c.loop-request.invariant.made
