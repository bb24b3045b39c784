use Rattle.std.proofs.Common.{◌<◌, arith, ap, length}
use Rattle.std.proofs.lemmas.List.{get_or_default, length-map}
use Rattle.driver_passes.specs.RequestView.{cite_view, request_view}
use Rattle.mentions_cited.specs.HomeView.{homes_view}
use Rattle.mentions_cited.proofs.Gathering.{first-all, first-more}
use Rattle.mentions_cited.proofs.Walking.{moved}
use Rattle.mentions_cited.proofs.homes.push_first_cites.Goals as goal

pub bounds-notes-place : goal.bounds-notes-place
bounds-notes-place g c =
    let xs = c.args.request.request.now.items.items in
    let m = moved xs c.deref-item-items.result.now c.loop-place.place c.item-item.result c.deref-item-items.ensures.value c.loop-place-test.true c.item-item.is in
    omega (arith, m.0, c.requires, length-map xs cite_view)

pub loop-place-preserved : goal.loop-place-preserved
loop-place-preserved g c =
    let xs = c.args.request.request.now.items.items in
    let notes = c.args.notes.now in
    let k = c.loop-place.place in
    let x = c.item-item.result in
    let m = moved xs c.deref-item-items.result.now k x c.deref-item-items.ensures.value c.loop-place-test.true c.item-item.is in
    let within : k < length notes = omega (arith, m.0, c.requires, length-map xs cite_view) in
    first-more cite_view (request_view c.args.request.request.now) xs notes k x _ m.0 m.1 within (get_or_default notes k _ _ within)
    (homes_view c.loop-place.firsts.items) (homes_view c.push_if_first.new.firsts.items) _ c.loop-place.invariant c.in_ok-push_if_first.ensures

pub returns : goal.returns
returns g c =
    let xs = c.args.request.request.now.items.items in
    let k = c.loop-place.place in
    first-all cite_view (request_view c.args.request.request.now) xs c.args.notes.now k (homes_view c.loop-place.firsts.items) _ (omega (arith, c.loop-place-test.false, ap length c.deref-item-items.ensures.value)) c.loop-place.invariant
