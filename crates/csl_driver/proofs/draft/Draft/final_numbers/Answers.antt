use Rattle.std.proofs.Common.{sym, ap, length, ◌∙◌}
use Rattle.std.proofs.lemmas.Result.{IfOk-weaker}
use Rattle.csl_driver.specs.Answer.{used_order}
use Rattle.csl_driver.specs.DraftView.{job_in, table_in}
use Rattle.driver_entries.specs.Entries.{number}
use Rattle.driver_passes.specs.RendersView.{renders_view}
use Rattle.driver_passes.specs.RequestView.{order_view}
use Rattle.driver_positions.specs.FirstProperties.{numbered_by}
use Rattle.csl_driver.proofs.Listings.{known-listed, numbers-are, numbers-fit, numbers-long, table-once}
use Rattle.csl_driver.proofs.Numbering.{by-cites, by-order}
use Rattle.csl_driver.proofs.draft.Draft.final_numbers.Goals as goal

pub numbers-requires : goal.numbers-requires
numbers-requires g c = let known = c.args.self.known in record { fits = numbers-fit known (known-listed known) }

pub numbers-requires-in-None : goal.numbers-requires-in-None
numbers-requires-in-None g c = record { fits = numbers-fit c.args.self.known c.in_ok-listing-in-None.ensures }

pub final_listing-requires-clause-once : goal.final_listing-requires-clause-once
final_listing-requires-clause-once g c =
    let draft = c.args.self in
    table-once g.T.PartialEq.eq g.met.T.Eq.laws (job_in draft).requests (table_in draft) draft.known.table

pub returns-in-Some-clause-numbers : goal.returns-in-Some-clause-numbers
returns-in-Some-clause-numbers g c =
    let eq = g.T.PartialEq.eq in
    let draft = c.args.self in
    let job = job_in draft in
    let used = sym (ap order_view c.in-Some.is) ∙ c.used_order.ensures in
    IfOk-weaker c.numbers.result _ _
    (λ v made. ap (λ ns. numbered_by eq ns (table_in draft).entries) made ∙ numbers-are draft.known (known-listed draft.known)
    ∙ ap (number eq job.offset) (by-order eq job.requests (renders_view c.args.cites.now) (used_order job.wanted) _ used)) c.numbers.ensures

pub returns-in_ok-listing-in-None-clause-numbers : goal.returns-in_ok-listing-in-None-clause-numbers
returns-in_ok-listing-in-None-clause-numbers g c =
    let eq = g.T.PartialEq.eq in
    let draft = c.args.self in
    let job = job_in draft in
    let unused = sym (ap order_view c.in-None.is) ∙ c.used_order.ensures in
    IfOk-weaker c.numbers-in-None.result _ _
    (λ v made. ap (λ ns. numbered_by eq ns (table_in draft).entries) made ∙ numbers-are draft.known c.in_ok-listing-in-None.ensures
    ∙ ap (number eq job.offset) (by-cites eq job.requests (renders_view c.args.cites.now) (used_order job.wanted) unused)) c.numbers-in-None.ensures

pub returns-in-Some-clause-long : goal.returns-in-Some-clause-long
returns-in-Some-clause-long g c =
    let known = c.args.self.known in
    IfOk-weaker c.numbers.result _ _ (λ v made. ap length made ∙ numbers-long known (known-listed known)) c.numbers.ensures

pub returns-in_ok-listing-in-None-clause-long : goal.returns-in_ok-listing-in-None-clause-long
returns-in_ok-listing-in-None-clause-long g c =
    IfOk-weaker c.numbers-in-None.result _ _ (λ v made. ap length made ∙ numbers-long c.args.self.known c.in_ok-listing-in-None.ensures) c.numbers-in-None.ensures
