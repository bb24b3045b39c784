use Rattle.std.proofs.Common.{ap, refl, ◌∙◌}
use Rattle.mentions_arranging.specs.Order.{final_cites, final_request}
use Rattle.mentions_arranging.specs.Requests.{request_view}
use Rattle.mentions_arranging.proofs.Walking.{all-mapped, mapped-next, seen_final}
use Rattle.mentions_arranging.proofs.order.final_requests.Goals as goal

pub loop-request-preserved : goal.loop-request-preserved
loop-request-preserved g c =
    let m = c.request-item.result in
    let is = c.in_ok-final_cites.ensures ∙ ap (final_cites m.facts.style) c.deref.ensures.value in
    mapped-next request_view seen_final c.args.requests.now c.loop-request.request-index m c.loop-request-test.true c.request-item.is c.loop-request.found.items c.push.new.self.items
    (record { facts = m.facts; cites = c.in_ok-final_cites.field-0 }) c.loop-request.invariant (λ i. record { facts = m.facts; cites = is i }) c.in_ok-push.ensures.items

pub returns : goal.returns
returns g c =
    all-mapped request_view seen_final c.args.requests.now c.loop-request.request-index request_view final_request (λ r. refl) c.loop-request-test.false c.loop-request.found.items c.loop-request.invariant
