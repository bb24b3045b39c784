use Rattle.std.proofs.Common.{ap, map, ◌≡◌, ◌∙◌}
use Rattle.std.proofs.lemmas.Result.{IfOk-weaker}
use Rattle.mentions_arranging.specs.Requests.{requests_view as all_arranged_view}
use Rattle.driver_entries.specs.Entries.{distinct}
use Rattle.driver_entries.specs.ListingView.{listing_view}
use Rattle.driver_passes.specs.Request.{cited}
use Rattle.driver_passes.specs.RequestView.{requests_view}
use Rattle.mentions_cites.specs.ByPlaces.{plain_requests_at}
use Rattle.mentions_cites.specs.Requests.{located_request}
use Rattle.mentions_cites.proofs.Placed.{of-requests}
use Rattle.mentions_cites.proofs.requests.plain_requests.Goals as goal

pub returns : goal.returns
returns g c =
    let eq = g.T.PartialEq.eq in
    let rs = requests_view c.args.requests.now in
    let notes = map (λ n. n.items) c.args.notes.now in
    let mentions = c.args.mentions.now in
    let suffixes = c.args.suffixes.now in
    let l = listing_view c.args.listing.now in
    IfOk-weaker c.requests_by_places.result
    (λ v. map located_request (all_arranged_view v.items) ≡ plain_requests_at mentions suffixes l rs (map (λ p. p.items) c.places.result.now) notes) _
    (λ v made listed is. made ∙ ap (λ ps. plain_requests_at mentions suffixes l rs ps notes) (c.places.ensures ∙ ap (λ t. t.places) c.requires)
    ∙ of-requests mentions suffixes l eq (distinct eq (cited rs)) listed is rs notes)
    c.requests_by_places.ensures
