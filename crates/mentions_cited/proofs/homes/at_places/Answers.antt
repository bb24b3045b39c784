use Rattle.std.proofs.Common.{get_or}
use Rattle.std.specs.Prelude.{slice_get}
use Rattle.std.proofs.lemmas.List.{get_or_default}
use Rattle.mentions_cited.specs.HomeView.{homes_view}
use Rattle.mentions_cited.proofs.Picking.{picked-more}
use Rattle.mentions_cited.proofs.homes.at_places.Goals as goal

pub loop-place-preserved : goal.loop-place-preserved
loop-place-preserved g c =
    let places = c.args.places.now in
    let k = c.loop-place.place-index in
    let within = c.loop-place-test.true in
    picked-more (slice_get (homes_view c.args.firsts.now)) places k (get_or places k 0) within (get_or_default places k _ _ within)
    (homes_view c.loop-place.homes.items) (homes_view c.push_at.new.homes.items) c.loop-place.invariant c.in_ok-push_at.ensures
