use Rattle.std.proofs.Common.{◌<◌, ◌≤◌, ap, arith, length, map, min, sym, ◌∙◌}
use Rattle.std.proofs.lemmas.List.{length-map}
use Rattle.std.proofs.lemmas.Simd.{map-map}
use Rattle.mentions_arranging.specs.Requests.{request_view as arranged_view}
use Rattle.driver_entries.specs.ListingView.{listing_view}
use Rattle.driver_passes.specs.RequestView.{request_view, requests_view}
use Rattle.mentions_cites.specs.ByPlaces.{plain_request_at}
use Rattle.mentions_cites.specs.Requests.{located_request}
use Rattle.mentions_cites.proofs.Placed.{request-next}
use Rattle.mentions_cites.proofs.Triples.{triples-all}
use Rattle.mentions_cites.proofs.requests.requests_by_places.Goals as goal

pub loop-k-preserved : goal.loop-k-preserved
loop-k-preserved g c =
    let requests = c.args.requests.now in
    let places = c.args.places.now in
    let notes = c.args.notes.now in
    let k = c.loop-k.k in
    let v : k < length requests = omega arith in
    let w : k < length places = omega arith in
    let u : k < length notes = omega arith in
    map-map located_request arranged_view c.push.new.self.items
    ∙ request-next c.args.mentions.now c.args.suffixes.now (listing_view c.args.listing.now) k request_view (λ p. p.items) (λ n. n.items) (λ r. located_request (arranged_view r)) requests places notes
    c.index-requests-k.result c.index-places-k.result c.index-notes-k.result c.deref.result.now c.deref-in-loop-k.result.now v w u c.index-requests-k.is c.index-places-k.is c.index-notes-k.is
    c.deref.ensures.value c.deref-in-loop-k.ensures.value c.loop-k.found.items c.push.new.self.items c.in_ok-plain_request.field-0
    (sym (map-map located_request arranged_view c.loop-k.found.items) ∙ c.loop-k.invariant) c.in_ok-push.ensures.items c.in_ok-plain_request.ensures

pub returns : goal.returns
returns g c =
    let requests = c.args.requests.now in
    let places = c.args.places.now in
    let notes = c.args.notes.now in
    let k = c.loop-k.k in
    let rs = requests_view requests in
    let rows = map (λ p. p.items) places in
    let lists = map (λ n. n.items) notes in
    let first = length-map requests request_view in
    let second = length-map places (λ p. p.items) in
    let third = length-map notes (λ n. n.items) in
    let past : min (min (length rs) (length rows)) (length lists) ≤ k = omega (arith, first, second, third) in
    c.loop-k.invariant
    ∙ ap (map (λ p. plain_request_at c.args.mentions.now c.args.suffixes.now (listing_view c.args.listing.now) p.0.0 p.0.1 p.1)) (triples-all rs rows lists k past)
