use Rattle.std.proofs.Common.{ap, arith, nat_eq, ◌∙◌, sym}
use Rattle.std.proofs.lemmas.List.Sums.{fold_push}
use Rattle.std.specs.List.{range_with_len}
use Rattle.driver_entries.specs.Entries.{with_all_new, with_new}
use Rattle.driver_entries.proofs.Numbers.{range-more}
use Rattle.driver_entries.proofs.listing.Listing.list_others.Goals as goal

pub loop-place-preserved : goal.loop-place-preserved
loop-place-preserved c =
    let base = c.args.self.now.order.items in
    let k = c.loop-place.place in
    record {
      listed = c.in_ok-list.ensures.listed ∙ ap (λ l. with_new nat_eq l k) c.loop-place.invariant.listed
          ∙ sym (fold_push (with_new nat_eq) base (range_with_len 0 k) k) ∙ ap (λ l. with_all_new nat_eq base l) (sym (range-more 0 k k (omega arith)));
      count = c.in_ok-list.ensures.count ∙ c.loop-place.invariant.count;
      sound = c.in_ok-list.ensures.sound;
    }
