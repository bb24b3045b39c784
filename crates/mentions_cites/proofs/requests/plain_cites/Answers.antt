use Rattle.std.proofs.Common.{◌<◌, ◌≤◌, ap, arith, length, map, min, refl, ◌∙◌}
use Rattle.std.proofs.lemmas.List.{length-map}
use Rattle.driver_entries.specs.ListingView.{listing_view}
use Rattle.driver_passes.specs.RequestView.{cite_view, cites_view}
use Rattle.mentions_cites.specs.ByPlaces.{index_at}
use Rattle.mentions_cites.specs.Requests.{located, plain_cite}
use Rattle.mentions_cites.proofs.Placed.{cite-next}
use Rattle.mentions_cites.proofs.Triples.{triples-all}
use Rattle.mentions_cites.proofs.requests.plain_cites.Goals as goal

pub loop-k-preserved : goal.loop-k-preserved
loop-k-preserved g c =
    let items = c.args.items.now in
    let places = c.args.places.now in
    let notes = c.args.notes.now in
    let k = c.loop-k.k in
    let v : k < length items = omega arith in
    let w : k < length places = omega arith in
    let u : k < length notes = omega arith in
    cite-next c.args.mentions.now c.args.suffixes.now (listing_view c.args.listing.now) k cite_view located items places notes c.index-items-k.result _ _ _ _ c.number_of-entry.result v w u
    c.index-items-k.is refl refl c.number_of-entry.ensures c.loop-k.cites.items c.push.new.self.items c.plain_cite.result c.loop-k.invariant c.in_ok-push.ensures.items c.plain_cite.ensures

pub returns : goal.returns
returns g c =
    let items = c.args.items.now in
    let places = c.args.places.now in
    let notes = c.args.notes.now in
    let k = c.loop-k.k in
    let seen = length-map items cite_view in
    let past : min (min (length (cites_view items)) (length places)) (length notes) ≤ k = omega (arith, seen) in
    c.loop-k.invariant
    ∙ ap (map (λ p. plain_cite c.args.mentions.now c.args.suffixes.now (index_at (listing_view c.args.listing.now) p.0.1) p.0.0 p.1)) (triples-all (cites_view items) places notes k past)
