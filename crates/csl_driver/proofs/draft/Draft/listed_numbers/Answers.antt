use Rattle.std.proofs.Common.{ℕ, ◌≤◌, [], ◌∷◌, ◌++◌, ap, arith, get_or, length, map, sym, take, ◌∙◌}
use Rattle.std.specs.Prelude.{slice_index_or}
use Rattle.std.proofs.lemmas.List.{get_or_read, map-append, take_all, take_more}
use Rattle.driver_entries.specs.Entries.{bibliography_order, number}
use Rattle.driver_entries.specs.Listed.{Listed}
use Rattle.driver_entries.specs.ListingView.{listing_view}
use Rattle.driver_passes.specs.RendersView.{renders_view}
use Rattle.driver_passes.specs.Request.{cited}
use Rattle.csl_driver.specs.Answer.{numbered_finally, used_order}
use Rattle.csl_driver.specs.DraftView.{job_in, table_in}
use Rattle.csl_driver.proofs.CslAccounting.{number-there, numbers-listed}
use Rattle.csl_driver.proofs.Listings.{known-listed, known-within}
use Rattle.csl_driver.proofs.draft.Draft.listed_numbers.Goals as goal

pub index-requires : goal.index-requires
index-requires g c =
    let draft = c.args.self in
    let numbers = c.in_ok-numbers.numbers in
    let within =
    number-there (length (table_in draft).entries) (listing_view draft.cited.now.listing).order c.order-order.result.now numbers.items c.loop-place.place-index (known-within draft.known g.met.T.Eq.laws)
    c.order-order.ensures c.in_ok-numbers.ensures.long c.loop-place-test.true in
    omega (arith, within, numbers.ok.0)

pub loop-place-preserved : goal.loop-place-preserved
loop-place-preserved g c =
    let draft = c.args.self in
    let order = c.order-order.result.now in
    let k = c.loop-place.place-index in
    let p = get_or order k 0 in
    let numbers = c.in_ok-numbers.numbers.items in
    let within =
    number-there (length (table_in draft).entries) (listing_view draft.cited.now.listing).order order numbers k (known-within draft.known g.met.T.Eq.laws)
    c.order-order.ensures c.in_ok-numbers.ensures.long c.loop-place-test.true in
    let number_at = λ (q : ℕ). slice_index_or numbers q 0 in
    let one = get_or_read numbers p c.index.result.now within c.index.ensures 0 in
    c.in_ok-push.ensures.items
    ∙ (λ i. c.loop-place.invariant i ++ one i ∷ [])
    ∙ sym (ap (map number_at) (take_more order k 0 c.loop-place-test.true) ∙ map-append number_at (take k order) (p ∷ []))

pub returns : goal.returns
returns g c =
    let eq = g.T.PartialEq.eq in
    let draft = c.args.self in
    let job = job_in draft in
    let order = c.order-order.result.now in
    let numbers = c.in_ok-numbers.numbers.items in
    let listed = known-listed draft.known in
    let past : length order ≤ c.loop-place.place-index = omega (arith, c.loop-place-test.false) in
    c.loop-place.invariant
    ∙ ap (map (λ q. slice_index_or numbers q 0)) (take_all c.loop-place.place-index order past ∙ c.order-order.ensures ∙ ap (λ (l : Listed). l.order) listed.listed)
    ∙ numbers-listed eq (table_in draft).entries (bibliography_order eq (used_order job.wanted) (cited job.requests)) numbers
    (number eq job.offset (numbered_finally eq (used_order job.wanted) job.requests (renders_view c.args.cites.now))) c.in_ok-numbers.ensures.numbers
