use Rattle.std.proofs.Common.{◌≡◌, ◌<◌, ◌++◌, ap, arith, length, map, ◌∙◌}
use Rattle.std.proofs.lemmas.List.{take_all}
use Rattle.driver_entries.specs.ListingView.{listing_view}
use Rattle.driver_entries.specs.Table.{places_in}
use Rattle.driver_entries.specs.TableView.{table_view}
use Rattle.driver_passes.specs.RequestView.{request_view, requests_view}
use Rattle.mentions_cited.specs.Steps.{handed_at, handed_by}
use Rattle.mentions_cited.proofs.Handing.{rows-are}
use Rattle.mentions_cited.proofs.Walking.{as-long, joined-next, same-at}
use Rattle.mentions_cited.proofs.handed.handed_cites.Goals as goal

pub bounds-places-k : goal.bounds-places-k
bounds-places-k g c =
    let eq = g.T.PartialEq.eq in
    let requests = c.args.requests.now in
    let table = table_view c.args.table.now in
    let rows = c.places-places.result.now in
    let are = rows-are eq request_view requests table rows c.requires c.places-places.ensures in
    omega (arith, c.loop-k-test.true, as-long (λ ps. ps.items) (λ x. places_in eq table.entries (request_view x).cites) rows requests are)

pub loop-k-preserved : goal.loop-k-preserved
loop-k-preserved g c =
    let eq = g.T.PartialEq.eq in
    let l = listing_view c.args.listing.now in
    let requests = c.args.requests.now in
    let table = table_view c.args.table.now in
    let rows = c.places-places.result.now in
    let k = c.loop-k.k in
    let r = c.index-requests-k.result in
    let row = c.index-places-k.result in
    let are = rows-are eq request_view requests table rows c.requires c.places-places.ensures in
    let within : k < length rows = omega (arith, c.loop-k-test.true, as-long (λ ps. ps.items) (λ x. places_in eq table.entries (request_view x).cites) rows requests are) in
    let own : row.items ≡ places_in eq table.entries (request_view r).cites =
    same-at (λ ps. ps.items) (λ x. places_in eq table.entries (request_view x).cites) rows requests are k row r within c.loop-k-test.true c.index-places-k.is c.index-requests-k.is in
    joined-next request_view requests k r c.loop-k-test.true c.index-requests-k.is (λ q. map (handed_at l q) (places_in eq table.entries q.cites)) c.loop-k.cites.items c.push_handed.new.cites.items
    c.loop-k.invariant
    (c.in_ok-push_handed.ensures ∙ ap (λ ps. c.loop-k.cites.items ++ map (handed_at l (request_view r)) ps) (c.deref.ensures.value ∙ own))

pub returns : goal.returns
returns g c =
    c.loop-k.invariant
    ∙ ap (λ xs. handed_by g.T.PartialEq.eq (table_view c.args.table.now).entries (listing_view c.args.listing.now) (requests_view xs)) (take_all c.loop-k.k c.args.requests.now c.loop-k-test.false)
