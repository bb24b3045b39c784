use Rattle.std.proofs.Common.{All, map, subst, sym, ◌++◌, ◌∙◌}
use Rattle.driver_entries.specs.TableView.{table_view}
use Rattle.driver_passes.specs.RendersView.{items_view, render_view}
use Rattle.driver_positions.specs.FinalSteps.{IsPlacedWithin, led_to}
use Rattle.driver_positions.proofs.FinalItems.{placed-seen, placed-within, row-within}
use Rattle.driver_positions.proofs.FinalPlaces.{places-more}
use Rattle.driver_positions.proofs.final_order.places_finally.Goals as goal

pub bounds-places-r : goal.bounds-places-r
bounds-places-r g c =
    let table = table_view c.args.table.now in
    row-within g.T.PartialEq.eq table.entries (λ ps. ps.items) render_view c.places-places.result.now table.places c.args.cites.now c.loop-r.r c.places-places.ensures c.requires.placed c.loop-r-test.true

pub push_places-requires : goal.push_places-requires
push_places-requires g c =
    let eq = g.T.PartialEq.eq in
    let table = table_view c.args.table.now in
    let found = c.index-cites-r.result in
    let row = c.index-places-r.result in
    let stands =
    placed-seen eq table.entries (λ ps. ps.items) render_view c.places-places.result.now table.places c.args.cites.now c.loop-r.r row found c.places-places.ensures c.requires.placed
    c.loop-r-test.true c.index-places-r.is c.index-cites-r.is in
    subst (λ ps. All (IsPlacedWithin ps) (items_view c.deref.result.now)) (sym c.deref-in-loop-r.ensures.value)
    (subst (λ is. All (IsPlacedWithin row.items) (items_view is)) (sym c.deref.ensures.value) (placed-within eq table.entries row.items (items_view found.items.items) stands))

pub loop-r-preserved : goal.loop-r-preserved
loop-r-preserved g c =
    let eq = g.T.PartialEq.eq in
    let table = table_view c.args.table.now in
    let cites = c.args.cites.now in
    let found = c.index-cites-r.result in
    let row = c.index-places-r.result in
    let stands =
    placed-seen eq table.entries (λ ps. ps.items) render_view c.places-places.result.now table.places cites c.loop-r.r row found c.places-places.ensures c.requires.placed
    c.loop-r-test.true c.index-places-r.is c.index-cites-r.is in
    places-more eq table.entries render_view cites c.loop-r.r found c.loop-r-test.true c.index-cites-r.is row.items c.loop-r.all.items c.push_places.new.all.items stands c.loop-r.invariant
    (c.in_ok-push_places.ensures ∙ (λ i. c.loop-r.all.items ++ map (led_to (c.deref-in-loop-r.ensures.value i)) (items_view (c.deref.ensures.value i))))
