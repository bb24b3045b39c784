use Rattle.std.proofs.Common.{◌≡◌, ◌+◌, ◌≤◌, take, All, arith, Some, None, ap, get_or, length, subst, sym, ◌∙◌, ◌<◌}
use Rattle.std.proofs.lemmas.List.{take_all}
use Rattle.std.specs.List.{filter_map}
use Rattle.driver_assembly.specs.BibliographyItems.{cites_at}
use Rattle.csl_driver.specs.Answer.{used_order}
use Rattle.driver_entries.specs.Entries.{bibliography_order}
use Rattle.driver_entries.specs.Listed.{Listed}
use Rattle.csl_driver.specs.DraftView.{job_in, table_in}
use Rattle.driver_passes.specs.Request.{cited}
use Rattle.driver_passes.specs.RendersView.{renders_view}
use Rattle.rounds_names.proofs.Marking.{same-default}
use Rattle.csl_driver.proofs.FirstCites.{first-cites, first_of, found-more, found-same, within-firsts}
use Rattle.csl_driver.proofs.Listings.{known-listed, known-within, table-once}
use Rattle.csl_driver.proofs.draft.Draft.first_cites.Goals.{in-Some+in_ok-push, in_default}
use Rattle.csl_driver.proofs.draft.Draft.first_cites.Goals as goal

pub first_items-requires-clause-once : goal.first_items-requires-clause-once
first_items-requires-clause-once g c =
    table-once g.T.PartialEq.eq g.met.T.Eq.laws (job_in c.args.self).requests (table_in c.args.self) c.args.self.known.table

pub index-first-requires : goal.index-first-requires
index-first-requires g c =
    let entries = (table_in c.args.self).entries in
    let order = c.order-order.result.now in
    let places = c.in_ok-places.places in
    let listed = subst (λ ps. All (λ q. q < length entries) ps) (sym c.order-order.ensures) (known-within c.args.self.known g.met.T.Eq.laws) in
    subst (λ n. get_or order c.loop-entry.entry-index 0 < n) (sym places.ok.0)
    (within-firsts g.T.PartialEq.eq entries (renders_view c.args.cites.now) places.items c.in_ok-places.ensures order c.loop-entry.entry-index listed c.loop-entry-test.true)

pub loop-entry-preserved : goal.loop-entry-preserved
loop-entry-preserved g c =
    let eq = g.T.PartialEq.eq in
    let entries = (table_in c.args.self).entries in
    let cites = renders_view c.args.cites.now in
    let order = c.order-order.result.now in
    let k = c.loop-entry.entry-index in
    let p = get_or order k 0 in
    let firsts = c.in_ok-places.places.items in
    let next = c.loop-entry-test.true in
    let listed = subst (λ ps. All (λ q. q < length entries) ps) (sym c.order-order.ensures) (known-within c.args.self.known g.met.T.Eq.laws) in
    let within = within-firsts eq entries cites firsts c.in_ok-places.ensures order k listed next in
    elim c.match-first.branch [
      | in-Some+in_ok-push w ↦
          let some = sym w.in-Some.is ∙ c.index-first.ensures ∙ same-default firsts p _ (Some w.in-Some.place) within in
          subst (λ ps. cites_at cites ps ≡ filter_map (first_of eq entries cites) (take (k + 1) order)) (sym (ap (λ (v : _). v.items) w.firsts-is))
          (found-more eq entries cites order k c.loop-entry.firsts.items c.loop-entry.invariant p next (same-default order k 0 p next) firsts c.in_ok-places.ensures within
          w.in-Some.place w.push.new.self.items some w.in_ok-push.ensures.items)
      | in_default w ↦
          let none = sym w.in_default.is ∙ c.index-first.ensures ∙ same-default firsts p _ None within in
          subst (λ ps. cites_at cites ps ≡ filter_map (first_of eq entries cites) (take (k + 1) order)) (sym (ap (λ (v : _). v.items) w.firsts-is))
          (found-same eq entries cites order k c.loop-entry.firsts.items c.loop-entry.invariant p next (same-default order k 0 p next) firsts c.in_ok-places.ensures within none)
    ]

pub returns : goal.returns
returns g c =
    let eq = g.T.PartialEq.eq in
    let entries = (table_in c.args.self).entries in
    let cites = renders_view c.args.cites.now in
    let listed = known-listed c.args.self.known in
    let job = job_in c.args.self in
    let order = bibliography_order eq (used_order job.wanted) (cited job.requests) in
    let past : length c.order-order.result.now ≤ c.loop-entry.entry-index = omega (arith, c.loop-entry-test.false) in
    c.loop-entry.invariant
    ∙ ap (filter_map (first_of eq entries cites)) (take_all c.loop-entry.entry-index c.order-order.result.now past ∙ c.order-order.ensures ∙ ap (λ (l : Listed). l.order) listed.listed)
    ∙ first-cites eq entries cites g.met.T.Eq.laws order (λ e inside. sym (listed.same e) ∙ inside)
