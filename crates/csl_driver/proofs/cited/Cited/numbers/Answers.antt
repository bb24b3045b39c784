use Rattle.std.proofs.Common.{◌≡◌, ◌+◌, [], ◌∷◌, ◌++◌, ap, arith, map, sym, ◌∙◌}
use Rattle.std.specs.List.{range_with_len}
use Rattle.std.proofs.lemmas.List.FromFn.{map-range_with_len_more}
use Rattle.csl_driver.specs.Cited.{listed_number}
use Rattle.driver_entries.specs.ListingView.{listing_view}
use Rattle.csl_driver.proofs.cited.Cited.numbers.Goals as goal

pub loop-place-preserved : goal.loop-place-preserved
loop-place-preserved g c =
    let offset = c.args.self.now.offset in
    let number = listed_number (listing_view c.args.listing.now) offset in
    let place = c.loop-place.place in
    let here : 0 + place ≡ place = omega arith in
    c.in_ok-push.ensures.items ∙ ap (λ l. l ++ (offset + c.number_of.result) ∷ []) c.loop-place.invariant
    ∙ ap (λ n. map number (range_with_len 0 place) ++ (offset + n) ∷ []) c.number_of.ensures
    ∙ sym (map-range_with_len_more number 0 place place here)
