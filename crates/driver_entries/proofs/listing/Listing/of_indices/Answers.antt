use Rattle.std.proofs.Common.{ap, nat_eq, subst, sym, ◌<◌, ◌∙◌, length}
use Rattle.std.proofs.lemmas.List.{length-replicate}
use Rattle.std.specs.Prelude.{All, None}
use Rattle.driver_entries.specs.Entries.{with_all_new}
use Rattle.driver_entries.proofs.ListedPlaces.{places-listed}
use Rattle.driver_entries.proofs.Numbers.{unnumbered}
use Rattle.driver_entries.proofs.listing.Listing.of_indices.Goals as goal

pub list_places-requires : goal.list_places-requires
list_places-requires c = record {
  within = subst (λ n. All (λ p. p < n) c.args.places.now) (sym (ap length c.in_ok-listing.ensures.numbers ∙ length-replicate c.args.count None)) c.requires.within;
  sound = unnumbered c.args.count c.in_ok-listing.listing.numbers.items c.in_ok-listing.listing.order.items c.in_ok-listing.ensures.empty c.in_ok-listing.ensures.numbers;
}

pub returns : goal.returns
returns c =
    places-listed c.args.count c.args.places.now c.list_places.new.self
    (c.in_ok-list_places.ensures.listed ∙ ap (λ l. with_all_new nat_eq l c.args.places.now) c.in_ok-listing.ensures.empty)
    (c.in_ok-list_places.ensures.count ∙ ap length c.in_ok-listing.ensures.numbers ∙ length-replicate c.args.count None)
    c.in_ok-list_places.ensures.sound
