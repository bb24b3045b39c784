use Rattle.std.proofs.Common.{ap, ◌∙◌}
use Rattle.driver_entries.specs.ListingView.{listing_view}
use Rattle.driver_passes.specs.RequestView.{cites_view}
use Rattle.mentions_cites.specs.ByPlaces.{plain_cites_at}
use Rattle.mentions_cites.proofs.requests.plain_request.Goals as goal

pub returns : goal.returns
returns g c =
    let cites = c.in_ok-cites.ensures
    ∙ ap (λ items. plain_cites_at c.args.mentions.now c.args.suffixes.now (listing_view c.args.listing.now) (cites_view items) c.args.places.now c.args.notes.now) c.as_slice-items.ensures.value in
    λ i. record { facts = c.request_facts.ensures i; cites = cites i }
