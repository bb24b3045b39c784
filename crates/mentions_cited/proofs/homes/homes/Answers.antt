use Rattle.std.proofs.Common.{◌≡◌, List, ap, length, map, sym, ◌∙◌}
use Rattle.std.specs.Prelude.{filter_map, slice_get}
use Rattle.std.proofs.lemmas.List.{length-map}
use Rattle.std.proofs.lemmas.Result.{IfOk-weaker}
use Rattle.driver_entries.specs.Entries.{distinct}
use Rattle.driver_entries.specs.Listed.{IsListingOf}
use Rattle.driver_entries.specs.ListingView.{listing_view}
use Rattle.driver_passes.specs.Request.{cited}
use Rattle.driver_passes.specs.RequestView.{requests_view}
use Rattle.mentions_cited.specs.Handed.{notes_of_cites}
use Rattle.mentions_cited.specs.Homes.{homes_of}
use Rattle.mentions_cited.specs.HomeView.{home_view, homes_view}
use Rattle.mentions_cited.proofs.Finding.{homes-count, homes-found}
use Rattle.mentions_cited.proofs.homes.homes.Goals as goal

pub returns : goal.returns
returns g c =
    let eq = g.T.PartialEq.eq in
    let laws = g.met.T.Eq.laws in
    let rs = requests_view c.args.requests.requests.now in
    let l = listing_view c.args.listing.now in
    let rows = map (λ n. n.items) c.args.notes.now in
    let firsts = homes_view c.deref.result.now in
    let places = c.order.result.now in
    let made = ap homes_view c.deref.ensures.value ∙ c.in_ok-firsts.ensures in
    let all : (v : _) → homes_view v.items ≡ filter_map (slice_get firsts) places → (listed : List g.row.T.Denot) → IsListingOf eq (distinct eq (cited rs)) listed l
    → rows ≡ notes_of_cites eq listed rs → homes_view v.items ≡ homes_of eq listed rs =
    λ v found listed is same. homes-found eq laws rs listed l is rows places (homes_view v.items) same c.order.ensures (found ∙ ap (λ fs. filter_map (slice_get fs) places) made) in
    record {
      homes = IfOk-weaker c.at_places.result (λ v. homes_view v.items ≡ filter_map (slice_get firsts) places)
          (λ v. (listed : List g.row.T.Denot) → IsListingOf eq (distinct eq (cited rs)) listed l → rows ≡ notes_of_cites eq listed rs → homes_view v.items ≡ homes_of eq listed rs)
          all c.at_places.ensures;
      each = IfOk-weaker c.at_places.result (λ v. homes_view v.items ≡ filter_map (slice_get firsts) places)
          (λ v. (listed : List g.row.T.Denot) → IsListingOf eq (distinct eq (cited rs)) listed l → rows ≡ notes_of_cites eq listed rs → length v.items ≡ length listed)
          (λ v found listed is same. sym (length-map v.items home_view) ∙ ap length (all v found listed is same) ∙ homes-count eq laws rs listed l is) c.at_places.ensures;
    }
