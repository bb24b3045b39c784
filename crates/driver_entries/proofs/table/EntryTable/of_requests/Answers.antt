use Rattle.std.proofs.Common.{[], ap, map, ◌∷◌, ◌∙◌}
use Rattle.std.proofs.lemmas.List.{map-append}
use Rattle.driver_entries.specs.Entries.{with_all_new}
use Rattle.driver_entries.specs.Table.{places_in}
use Rattle.driver_passes.specs.Request.{entries_of}
use Rattle.driver_passes.specs.RequestView.{cites_view, entries_view, request_view}
use Rattle.driver_entries.proofs.Cited.{gathered-table}
use Rattle.driver_entries.proofs.Placing.{requests-more}
use Rattle.driver_entries.proofs.table.EntryTable.of_requests.Goals as goal

pub loop-request-preserved : goal.loop-request-preserved
loop-request-preserved g c =
    let eq = g.T.PartialEq.eq in
    let items = c.deref.ensures.value in
    let entries = c.place_items.new.entries.keys in
    let more = requests-more eq g.met.T.Eq.laws c.args.requests.now c.loop-request.request-index c.request-item.result
    c.loop-request-test.true c.request-item.is request_view [] c.loop-request.invariant.added c.loop-request.invariant.placed
    (c.in_ok-of_request.ensures.added
    ∙ ap (λ l. with_all_new eq (entries_view c.loop-request.entries.keys) (entries_of (cites_view l))) items)
    (c.in_ok-of_request.ensures.placed ∙ ap (λ l. places_in eq (entries_view entries) (cites_view l)) items) in
    record {
      added = more.0;
      placed = ap (λ l. map (λ ps. ps.items) l) c.in_ok-push.ensures.items
          ∙ map-append (λ ps. ps.items) c.loop-request.places.items (c.in_ok-of_request.of_request ∷ []) ∙ more.1;
    }

pub returns : goal.returns
returns g c =
    gathered-table g.T.PartialEq.eq g.met.T.Eq.laws c.args.requests.now c.loop-request.request-index request_view
    (record { entries = c.loop-request.entries; places = c.loop-request.places })
    c.loop-request-test.false c.loop-request.invariant.added c.loop-request.invariant.placed
