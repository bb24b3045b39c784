use Rattle.std.proofs.Common.{◌<◌, Some, ap, length, subst, ◌∙◌}
use Rattle.std.proofs.Math.ListN.{get_or-map, length-map}
use Rattle.std.proofs.lemmas.Option.{slice_get-get_or}
use Rattle.value_styles.specs.Ring.{HasNoRing}
use Rattle.driver_passes.specs.RequestView.{request_view, requests_view}
use Rattle.driver_passes.proofs.acyclic.AcyclicRequests.at.Goals as goal

pub invariant_of-result : goal.invariant_of-result
invariant_of-result g c =
    let requests = c.args.self.requests.now in
    let k = c.args.place in
    let request = c.index-self-place.result in
    let within : k < length (requests_view requests) = simp length-map c.requires in
    record { no_ring = subst (λ r. HasNoRing r.style.macros) (get_or-map request_view requests k request) (c.args.self.no_ring k (request_view request) within) }

pub returns : goal.returns
returns g c =
    let requests = c.args.self.requests.now in
    let k = c.args.place in
    let request = c.index-self-place.result in
    let within : k < length (requests_view requests) = simp length-map c.requires in
    slice_get-get_or (requests_view requests) k (request_view request) within ∙ ap Some (get_or-map request_view requests k request)
