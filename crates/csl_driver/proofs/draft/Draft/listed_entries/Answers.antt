use Rattle.std.proofs.Common.{◌≤◌, ◌<◌, ◌∷◌, [], All, ap, arith, get_or, length, map, subst, sym, ◌∙◌}
use Rattle.std.specs.Prelude.{find, slice_get}
use Rattle.std.specs.List.{filter_map}
use Rattle.std.proofs.lemmas.List.{map-append, take_all}
use Rattle.std.proofs.lemmas.List.Elements.{All-get_or}
use Rattle.driver_entries.specs.Listed.{Listed}
use Rattle.driver_entries.specs.Table.{Table}
use Rattle.csl_driver.specs.CslAnswer.{listed}
use Rattle.csl_driver.specs.DraftView.{job_in, table_in}
use Rattle.rounds_names.proofs.Marking.{filter_map-more, same-default}
use Rattle.csl_driver.proofs.CslAccounting.{entries-found}
use Rattle.csl_driver.proofs.Listings.{known-listed, known-within}
use Rattle.csl_driver.proofs.draft.Draft.listed_entries.Goals as goal

pub entry-requires : goal.entry-requires
entry-requires g c =
    let entries = (table_in c.args.self).entries in
    let order = c.order-order.result.now in
    let within = subst (λ ps. All (λ q. q < length entries) ps) (sym c.order-order.ensures) (known-within c.args.self.known g.met.T.Eq.laws) in
    record { within = All-get_or (λ q. q < length entries) order c.loop-place.place-index 0 c.loop-place-test.true within }

pub loop-place-preserved : goal.loop-place-preserved
loop-place-preserved g c =
    let entries = (table_in c.args.self).entries in
    let order = c.order-order.result.now in
    let k = c.loop-place.place-index in
    let p = get_or order k 0 in
    let next = c.loop-place-test.true in
    filter_map-more (slice_get entries) order k p c.entry.result.now next (same-default order k 0 p next) c.entry.ensures c.loop-place.invariant
    (ap (map (λ e. e.now)) c.in_ok-push.ensures.items ∙ map-append (λ e. e.now) c.loop-place.entries.items (c.entry.result ∷ []))

pub returns : goal.returns
returns g c =
    let eq = g.T.PartialEq.eq in
    let known = c.args.self.known in
    let entries = (table_in c.args.self).entries in
    let order = listed eq (job_in c.args.self) in
    let past : length c.order-order.result.now ≤ c.loop-place.place-index = omega (arith, c.loop-place-test.false) in
    c.loop-place.invariant
    ∙ ap (filter_map (slice_get entries)) (take_all c.loop-place.place-index c.order-order.result.now past ∙ c.order-order.ensures ∙ ap (λ (l : Listed). l.order) (known-listed known).listed)
    ∙ entries-found eq entries order
    ∙ ap (λ (t : Table _). filter_map (λ e. find (eq e) t.entries) order) known.table
