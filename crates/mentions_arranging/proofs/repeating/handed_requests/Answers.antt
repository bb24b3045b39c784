use Rattle.std.proofs.Common.{ap, map, refl, ◌∙◌}
use Rattle.mentions_notes.specs.Requests.{request_view as repeating_view}
use Rattle.mentions_arranging.specs.Repeating.{handed_request, placed_cite}
use Rattle.mentions_arranging.specs.Requests.{request_view}
use Rattle.mentions_arranging.proofs.Walking.{all-mapped, mapped-next, seen_handed}
use Rattle.mentions_arranging.proofs.repeating.handed_requests.Goals as goal

pub loop-request-preserved : goal.loop-request-preserved
loop-request-preserved g c =
    let m = c.request-item.result in
    let is = c.in_ok-handed_cites.ensures ∙ ap (map placed_cite) c.deref.ensures.value in
    mapped-next repeating_view seen_handed c.args.requests.now c.loop-request.request-index m c.loop-request-test.true c.request-item.is c.loop-request.found.items c.push.new.self.items
    (record { note = m.facts.note; cites = c.in_ok-handed_cites.field-0 }) c.loop-request.invariant (λ i. record { note = m.facts.note; cites = is i }) c.in_ok-push.ensures.items

pub returns : goal.returns
returns g c =
    all-mapped repeating_view seen_handed c.args.requests.now c.loop-request.request-index request_view handed_request (λ r. refl) c.loop-request-test.false c.loop-request.found.items
    c.loop-request.invariant
