use Rattle.std.proofs.Common.{[], ◌∷◌, ◌++◌, ◌<◌, ◌≤◌, ap, append-nil, arith, length, min, refl, sym, ◌∙◌}
use Rattle.std.proofs.lemmas.List.{map-append}
use Rattle.driver_passes.specs.RendersView.{item_view, items_view}
use Rattle.driver_passes.specs.RequestView.{cite_view, request_view}
use Rattle.mentions_cites.specs.ToldView.{told_view}
use Rattle.mentions_cites.proofs.Telling.{told-past, told-there}
use Rattle.mentions_cites.proofs.cites.push_told.Goals as goal

pub returns-then-count-place : goal.returns-then-count-place
returns-then-count-place g c =
    let old = items_view c.args.found.now.items in
    let items = c.as_slice-items.result.now in
    let notes = c.args.notes.now in
    let past : min (length items) (length notes) ≤ c.args.cite.now.placed.place = omega arith in
    sym (ap (λ l. old ++ l) (told-past (told_view c.args.told.now) (request_view c.args.request.now) notes c.args.cite.now cite_view items c.args.request.now.items.items refl c.as_slice-items.ensures.value past)
    ∙ append-nil old)

pub returns : goal.returns
returns g c =
    let found = c.args.found.now.items in
    let told = told_view c.args.told.now in
    let items = c.as_slice-items.result.now in
    let notes = c.args.notes.now in
    let place = c.args.cite.now.placed.place in
    let v : place < length items = omega arith in
    let w : place < length notes = omega arith in
    ap items_view c.in_ok-push.ensures ∙ map-append item_view found (c.in_ok-cite.cite ∷ [])
    ∙ ap (λ l. items_view found ++ l)
    (told-there told (request_view c.args.request.now) notes c.args.cite.now cite_view items c.args.request.now.items.items c.index-items-place.result _ _ _ _ refl c.as_slice-items.ensures.value v w
    c.index-items-place.is refl c.note_number-note.ensures c.in_ok-cite.ensures)
