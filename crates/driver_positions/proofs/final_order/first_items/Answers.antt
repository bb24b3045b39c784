use Rattle.std.proofs.Common.{All, None, ap, length, replicate, subst, take, sym, ◌<◌, ◌≡◌, ◌∙◌}
use Rattle.std.proofs.lemmas.List.{length-replicate, take_all, with_items_is}
use Rattle.std.specs.Prelude.{fold}
use Rattle.driver_entries.specs.TableView.{table_view}
use Rattle.driver_entries.proofs.ListedPlaces.{all-cited}
use Rattle.driver_passes.specs.RendersView.{items_view, render_view, renders_view}
use Rattle.driver_positions.specs.FinalProperties.{cited_finally}
use Rattle.driver_positions.specs.FinalSteps.{IsPlacedWithin, led_to, stands_of, with_first}
use Rattle.driver_positions.proofs.FinalFirsts.{firsts-are, length-stands, requests-more, stands}
use Rattle.driver_positions.proofs.FinalItems.{placed-seen, placed-within, row-within}
use Rattle.driver_positions.proofs.FinalPlaces.{row-below}
use Rattle.driver_positions.proofs.final_order.first_items.Goals as goal

pub bounds-places-r : goal.bounds-places-r
bounds-places-r g c =
    let table = table_view c.args.table.now in
    row-within g.T.PartialEq.eq table.entries (λ ps. ps.items) render_view c.places-places.result.now table.places c.args.cites.now c.loop-r.r c.places-places.ensures c.requires.placed c.loop-r-test.true

pub note_firsts-requires-clause-within : goal.note_firsts-requires-clause-within
note_firsts-requires-clause-within g c =
    let eq = g.T.PartialEq.eq in
    let table = table_view c.args.table.now in
    let found = c.index-cites-r.result in
    let row = c.index-places-r.result in
    let stands =
    placed-seen eq table.entries (λ ps. ps.items) render_view c.places-places.result.now table.places c.args.cites.now c.loop-r.r row found c.places-places.ensures c.requires.placed
    c.loop-r-test.true c.index-places-r.is c.index-cites-r.is in
    subst (λ ps. All (IsPlacedWithin ps) (items_view c.deref.result.now)) (sym c.deref-in-loop-r.ensures.value)
    (subst (λ is. All (IsPlacedWithin row.items) (items_view is)) (sym c.deref.ensures.value) (placed-within eq table.entries row.items (items_view found.items.items) stands))

pub note_firsts-requires-clause-led : goal.note_firsts-requires-clause-led
note_firsts-requires-clause-led g c =
    let eq = g.T.PartialEq.eq in
    let laws = g.met.T.Eq.laws in
    let table = table_view c.args.table.now in
    let cites = c.args.cites.now in
    let found = c.index-cites-r.result in
    let row = c.index-places-r.result in
    let placed =
    placed-seen eq table.entries (λ ps. ps.items) render_view c.places-places.result.now table.places cites c.loop-r.r row found c.places-places.ensures c.requires.placed
    c.loop-r-test.true c.index-places-r.is c.index-cites-r.is in
    let known = all-cited eq laws table.entries (cited_finally (renders_view cites)) c.requires.same in
    let below : All (λ i. led_to row.items i < length table.entries) (items_view found.items.items) =
    row-below eq table.entries laws render_view cites c.loop-r.r found row.items known c.loop-r-test.true c.index-cites-r.is placed in
    let counted : length c.deref_mut.result.now ≡ length table.entries =
    ap length c.deref_mut.ensures.value ∙ length-stands eq laws table.entries c.in_ok-firsts.firsts.items c.loop-r.firsts.items (renders_view (take c.loop-r.r cites)) c.loop-r.invariant
    ∙ ap length c.in_ok-firsts.ensures ∙ length-replicate c.len.result None ∙ c.len.ensures in
    subst (λ n. All (λ i. led_to c.deref-in-loop-r.result.now i < n) (items_view c.deref.result.now)) (sym counted)
    (subst (λ ps. All (λ i. led_to ps i < length table.entries) (items_view c.deref.result.now)) (sym c.deref-in-loop-r.ensures.value)
    (subst (λ is. All (λ i. led_to row.items i < length table.entries) (items_view is)) (sym c.deref.ensures.value) below))

pub loop-r-preserved : goal.loop-r-preserved
loop-r-preserved g c =
    let eq = g.T.PartialEq.eq in
    let table = table_view c.args.table.now in
    let cites = c.args.cites.now in
    let found = c.index-cites-r.result in
    let row = c.index-places-r.result in
    let now = c.loop-r.firsts in
    let placed =
    placed-seen eq table.entries (λ ps. ps.items) render_view c.places-places.result.now table.places cites c.loop-r.r row found c.places-places.ensures c.requires.placed
    c.loop-r-test.true c.index-places-r.is c.index-cites-r.is in
    let same : length c.note_firsts.new.firsts ≡ now.len = c.note_firsts.auto.firsts ∙ ap length c.deref_mut.ensures.value ∙ sym now.ok.0 in
    requests-more eq g.met.T.Eq.laws table.entries render_view cites c.loop-r.r found c.loop-r-test.true c.index-cites-r.is row.items c.in_ok-firsts.firsts.items now.items _ placed c.loop-r.invariant
    (with_items_is now c.note_firsts.new.firsts same ∙ c.note_firsts.ensures
    ∙ (λ i. fold with_first (c.deref_mut.ensures.value i) (stands_of c.loop-r.r (c.deref-in-loop-r.ensures.value i) (items_view (c.deref.ensures.value i)))))

pub returns : goal.returns
returns g c =
    let eq = g.T.PartialEq.eq in
    let laws = g.met.T.Eq.laws in
    let es = (table_view c.args.table.now).entries in
    let cites = c.args.cites.now in
    firsts-are eq laws es (renders_view cites) (all-cited eq laws es (cited_finally (renders_view cites)) c.requires.same) c.requires.once c.in_ok-firsts.firsts.items c.loop-r.firsts.items
    (c.in_ok-firsts.ensures ∙ ap (λ n. replicate n None) c.len.ensures)
    (c.loop-r.invariant ∙ ap (λ l. fold with_first c.in_ok-firsts.firsts.items (stands eq laws es (renders_view l))) (take_all c.loop-r.r cites c.loop-r-test.false))
