use Rattle.std.proofs.Common.{◌≤◌, ◌<◌, ◌∷◌, [], ◌++◌, All, None, Some, ap, arith, get_or, length, subst, sym, ◌∙◌}
use Rattle.std.proofs.lemmas.List.{take_all}
use Rattle.driver_entries.specs.Listed.{Listed}
use Rattle.driver_assembly.specs.ByMeans.{cites_with_means}
use Rattle.csl_driver.specs.CslAnswer.{item_means, listed}
use Rattle.csl_driver.specs.DraftView.{job_in, table_in}
use Rattle.driver_passes.specs.RendersView.{renders_view}
use Rattle.rounds_names.proofs.Marking.{same-default}
use Rattle.csl_driver.proofs.CslFirstCites.{as-long-more, firsts_with_means, listed-by-places, means-more, means-same}
use Rattle.csl_driver.proofs.FirstCites.{within-firsts}
use Rattle.csl_driver.proofs.Listings.{known-listed, known-within, table-once}
use Rattle.csl_driver.proofs.draft.Draft.told_first_cites.Goals.{in-Some+in_ok-push+in_ok-push-2, in_default}
use Rattle.csl_driver.proofs.draft.Draft.told_first_cites.Goals as goal

pub first_items-requires-clause-once : goal.first_items-requires-clause-once
first_items-requires-clause-once g c =
    table-once g.T.PartialEq.eq g.met.T.Eq.laws (job_in c.args.self).requests (table_in c.args.self) c.args.self.known.table

pub index-first-requires : goal.index-first-requires
index-first-requires g c =
    let entries = (table_in c.args.self).entries in
    let order = c.order-order.result.now in
    let firsts = c.in_ok-firsts.firsts in
    let below = subst (λ ps. All (λ q. q < length entries) ps) (sym c.order-order.ensures) (known-within c.args.self.known g.met.T.Eq.laws) in
    subst (λ n. get_or order c.loop-index.index 0 < n) (sym firsts.ok.0)
    (within-firsts g.T.PartialEq.eq entries (renders_view c.args.cites.now) firsts.items c.in_ok-firsts.ensures order c.loop-index.index below c.loop-index-test.true)

pub loop-index-preserved : goal.loop-index-preserved
loop-index-preserved g c =
    let eq = g.T.PartialEq.eq in
    let entries = (table_in c.args.self).entries in
    let cites = renders_view c.args.cites.now in
    let means = item_means c.args.told.now.states.items c.args.told.now.suffixes.items in
    let order = c.order-order.result.now in
    let k = c.loop-index.index in
    let p = get_or order k 0 in
    let firsts = c.in_ok-firsts.firsts.items in
    let next = c.loop-index-test.true in
    let was = c.loop-index.invariant in
    let below = subst (λ ps. All (λ q. q < length entries) ps) (sym c.order-order.ensures) (known-within c.args.self.known g.met.T.Eq.laws) in
    let within = within-firsts eq entries cites firsts c.in_ok-firsts.ensures order k below next in
    elim c.match-first.branch [
      | in-Some+in_ok-push+in_ok-push-2 w ↦
          let some = sym w.in-Some.is ∙ c.index-first.ensures ∙ same-default firsts p _ (Some w.in-Some.place) within in
          let grown = ap (λ (v : _). v.items) w.places-is ∙ w.in_ok-push.ensures.items in
          let told = ap (λ (v : _). v.items) w.means-is ∙ w.in_ok-push-2.ensures.items ∙ ap (λ m. c.loop-index.means.items ++ m ∷ []) w.item_means.ensures in
          record {
            long = as-long-more c.loop-index.places.items c.loop-index.means.items w.in-Some.place (means k) was.long grown told;
            cites = means-more eq entries cites means order k c.loop-index.places.items c.loop-index.means.items was.cites p next (same-default order k 0 p next) firsts c.in_ok-firsts.ensures within
                w.in-Some.place _ _ was.long some grown told;
          }
      | in_default w ↦
          let none = sym w.in_default.is ∙ c.index-first.ensures ∙ same-default firsts p _ None within in
          record {
            long = ap (λ (v : _). length v.items) w.means-is ∙ was.long ∙ sym (ap (λ (v : _). length v.items) w.places-is);
            cites = (λ i. cites_with_means cites (w.places-is i).items (w.means-is i).items)
                ∙ means-same eq entries cites means order k c.loop-index.places.items c.loop-index.means.items was.cites p next (same-default order k 0 p next) firsts c.in_ok-firsts.ensures within none;
          }
    ]

pub returns-clause-cites : goal.returns-clause-cites
returns-clause-cites g c =
    let eq = g.T.PartialEq.eq in
    let entries = (table_in c.args.self).entries in
    let cites = renders_view c.args.cites.now in
    let means = item_means c.args.told.now.states.items c.args.told.now.suffixes.items in
    let known = known-listed c.args.self.known in
    let order = listed eq (job_in c.args.self) in
    let past : length c.order-order.result.now ≤ c.loop-index.index = omega (arith, c.loop-index-test.false) in
    c.loop-index.invariant.cites
    ∙ ap (firsts_with_means eq entries cites means) (take_all c.loop-index.index c.order-order.result.now past ∙ c.order-order.ensures ∙ ap (λ (l : Listed). l.order) known.listed)
    ∙ listed-by-places eq entries cites means g.met.T.Eq.laws order (λ e inside. sym (known.same e) ∙ inside)
