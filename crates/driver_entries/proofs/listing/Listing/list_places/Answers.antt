use Rattle.std.proofs.Common.{ap, nat_eq, ◌∙◌, sym, take, get_or}
use Rattle.std.proofs.lemmas.List.{take_more}
use Rattle.std.proofs.lemmas.List.Sums.{fold_push}
use Rattle.driver_entries.specs.Entries.{with_all_new, with_new}
use Rattle.driver_entries.proofs.listing.Listing.list_places.Goals as goal

pub loop-place-preserved : goal.loop-place-preserved
loop-place-preserved c =
    let base = c.args.self.now.order.items in
    let places = c.args.places.now in
    let k = c.loop-place.place-index in
    let place = get_or places k 0 in
    record {
      listed = c.in_ok-list.ensures.listed ∙ ap (λ l. with_new nat_eq l place) c.loop-place.invariant.listed
          ∙ sym (fold_push (with_new nat_eq) base (take k places) place) ∙ ap (λ l. with_all_new nat_eq base l) (sym (take_more places k 0 c.loop-place-test.true));
      count = c.in_ok-list.ensures.count ∙ c.loop-place.invariant.count;
      sound = c.in_ok-list.ensures.sound;
    }
