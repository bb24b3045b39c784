use Rattle.std.proofs.Common.{◌≡◌, All, ap, arith, get_or, length, refl, subst, sym, ◌∙◌}
use Rattle.std.specs.Prelude.{slice_index_or}
use Rattle.std.specs.Vec.{with_items}
use Rattle.std.proofs.lemmas.List.{with_items_is}
use Rattle.driver_entries.specs.Entries.{place}
use Rattle.driver_entries.specs.TableView.{table_view}
use Rattle.driver_passes.specs.RendersView.{items_view, render_view}
use Rattle.driver_passes.specs.RequestView.{request_view}
use Rattle.driver_positions.specs.FinalSteps.{IsPlacedWithin, all_set}
use Rattle.driver_positions.proofs.FinalItems.{placed-within, row-within}
use Rattle.driver_positions.proofs.FinalRenders.{next-render, placed-now}
use Rattle.driver_positions.proofs.final_order.set_final_properties.Goals as goal

pub bounds-places-r : goal.bounds-places-r
bounds-places-r g c =
    let table = table_view c.args.table.now in
    row-within g.T.PartialEq.eq table.entries (λ ps. ps.items) render_view c.places-places.result.now table.places c.args.cites.now c.loop-r.r c.places-places.ensures c.requires.placed c.loop-r-test.true

pub set_items-requires : goal.set_items-requires
set_items-requires g c =
    let eq = g.T.PartialEq.eq in
    let table = table_view c.args.table.now in
    let old = c.args.cites.now in
    let now = c.loop-r.cites in
    let r = c.loop-r.r in
    let found = get_or now r c.index-cites-r.result in
    let row = c.index-places-r.result in
    let counted : length now ≡ length old = omega arith in
    let stands =
    placed-now eq g.P.PartialEq.eq (λ e. slice_index_or c.args.numbers.now (place eq e table.entries) 0) render_view old now r found c.loop-r-test.true counted
    (ap (get_or now r) c.index-cites-r.is) c.loop-r.invariant table.entries (λ ps. ps.items) c.places-places.result.now table.places row c.places-places.ensures c.requires.placed
    c.index-places-r.is in
    subst (λ ps. All (IsPlacedWithin ps) (items_view c.deref_mut.result.now)) (sym c.deref.ensures.value)
    (subst (λ is. All (IsPlacedWithin row.items) (items_view is)) (sym c.deref_mut.ensures.value) (placed-within eq table.entries row.items (items_view found.items.items) stands))

pub loop-r-preserved : goal.loop-r-preserved
loop-r-preserved g c =
    let eq = g.T.PartialEq.eq in
    let payload_eq = g.P.PartialEq.eq in
    let table = table_view c.args.table.now in
    let old = c.args.cites.now in
    let now = c.loop-r.cites in
    let r = c.loop-r.r in
    let found = get_or now r c.index-cites-r.result in
    let row = c.index-places-r.result in
    let numbers = c.args.numbers.now in
    let first = c.first_position-first.result in
    let counted : length now ≡ length old = omega arith in
    let here = ap (get_or now r) c.index-cites-r.is in
    let number_of = λ (e : g.row.T.Denot). slice_index_or numbers (place eq e table.entries) 0 in
    let stands =
    placed-now eq payload_eq number_of render_view old now r found c.loop-r-test.true counted here c.loop-r.invariant table.entries (λ ps. ps.items) c.places-places.result.now table.places row
    c.places-places.ensures c.requires.placed c.index-places-r.is in
    let same : length c.set_items.new.items ≡ found.items.len = c.set_items.auto.items ∙ ap length c.deref_mut.ensures.value ∙ sym found.items.ok.0 in
    let items : items_view (with_items found.items c.set_items.new.items).items ≡ all_set eq payload_eq first row.items numbers (items_view found.items.items) =
    ap items_view (with_items_is found.items c.set_items.new.items same) ∙ c.set_items.ensures
    ∙ (λ i. all_set eq payload_eq first (c.deref.ensures.value i) numbers (items_view (c.deref_mut.ensures.value i))) in
    next-render eq payload_eq number_of render_view old now r found c.loop-r-test.true counted here c.loop-r.invariant table.entries row.items numbers first
    (record { items = with_items found.items c.set_items.new.items; request = found.request })
    c.first_position-first.ensures (λ e. refl) stands
    (λ i. record { items = items i; request = request_view found.request.now })
