-- What the driver answers, or why it refuses, is of the document; and so is what an index that points to nothing refuses.
use Rattle.std.proofs.Common.{◌≡◌, ◌∙◌, ap, map, refl, rules, slice_get, subst, sym}
use Rattle.std.specs.Prelude.{option_map}
use Rattle.value_styles.specs.StyleView.{locale_view}
use Rattle.csl_driver.specs.DriverView.{driver_view}
use Rattle.driver_passes.specs.RequestView.{entries_view, wanted_view}
use Rattle.document_requests.specs.Form.{request_with}
use Rattle.document_requests.specs.FoundView.{found_views, unnamed}
use Rattle.document_requests.specs.Indexes.{each_of, order_at, request_at}
use Rattle.document_requests.specs.JobView.{asked_bibliography_view, asked_requests_view, asked_view}
use Rattle.document_answer.specs.DocumentView.{document_view}
use Rattle.document_answer.specs.Filled.{wanted_with}
use Rattle.document_answer.specs.Run.{IsRefusedFor, accepted}
use Rattle.document_answer.specs.Status.{refused}
use Rattle.csl_driver.specs.OwnError.{own_error}
use Rattle.document_answer.proofs.Refusals.{has_answer, is_answer, refused-with}
use Rattle.document_answer.proofs.Resolved.{asks-for, missing, no-order, no-requests, no-style}
use Rattle.document_answer.proofs.document.Document.answer.Goals as goal

pub returns : goal.returns
returns c =
    let d = c.args.self.now in
    let v = driver_view c.in_ok-driver.driver in
    let w = wanted_view c.in_ok-request.request in
    let order = option_map (λ o. entries_view o.items) c.in_ok-order.order in
    let locales = sym (c.in_ok-files.ensures ∙ c.deref-2.ensures.value) in
    let styles = sym (ap found_views c.deref-3.ensures.value ∙ c.in_ok-found.ensures ∙ ap unnamed c.deref.ensures.value) in
    let entries = sym c.deref-4.ensures.value in
    let requests = sym c.deref-5.ensures.value in
    let asks = asks-for d.entries.items (unnamed d.styles.items) (map locale_view d.locales.items) (asked_view d.job) v w order
    ((λ i. option_map (λ rs. accepted (map (request_with (map locale_view (locales i))) rs)) (each_of (request_at (slice_get (entries i)) (slice_get (styles i))) (asked_requests_view (requests i))))
    ∙ c.in_ok-driver.ensures.requests)
    c.in_ok-driver.ensures.offset
    ((λ i. order_at (slice_get (entries i)) (asked_bibliography_view d.job.wanted).order) ∙ c.in_ok-order.ensures.order)
    ((λ i. option_map (wanted_with (asked_bibliography_view d.job.wanted).locale (map locale_view (locales i)) order) (slice_get (styles i) d.job.wanted.style)) ∙ c.in_ok-request.ensures.wanted) in
    let a = has_answer v w asks.document asks.made asks.wanted c.in_ok-rendered.ensures.possible in
    (asks.document, asks.is, (a, is_answer v w asks.document asks.made asks.wanted d.job.rounds c.in_ok-rendered.rendered asks.rounds c.in_ok-rendered.ensures.answer))

pub returns-in_err-driver : goal.returns-in_err-driver
returns-in_err-driver c =
    let d = c.args.self.now in
    let styles = sym (ap found_views c.deref-3.ensures.value ∙ c.in_ok-found.ensures ∙ ap unnamed c.deref.ensures.value) in
    let entries = sym c.deref-4.ensures.value in
    let requests = sym c.deref-5.ensures.value in
    let h = missing (λ x. x) (document_view d) _ c.in_err-driver.field-0.0
    (λ none. no-requests d.entries.items (unnamed d.styles.items) (map locale_view d.locales.items) (asked_view d.job)
    ((λ i. each_of (request_at (slice_get (entries i)) (slice_get (styles i))) (asked_requests_view (requests i))) ∙ none))
    c.in_err-driver.ensures.missing in
    search (rules, h)

pub returns-in_err-order : goal.returns-in_err-order
returns-in_err-order c =
    let d = c.args.self.now in
    let entries = sym c.deref-4.ensures.value in
    let h = missing (λ x. x) (document_view d) _ c.in_err-order.field-0.0
    (λ none. no-order d.entries.items (unnamed d.styles.items) (map locale_view d.locales.items) (asked_view d.job)
    ((λ i. order_at (slice_get (entries i)) (asked_bibliography_view d.job.wanted).order) ∙ none))
    c.in_err-order.ensures.missing in
    search (rules, h)

pub returns-in_err-request : goal.returns-in_err-request
returns-in_err-request c =
    let d = c.args.self.now in
    let styles = sym (ap found_views c.deref-3.ensures.value ∙ c.in_ok-found.ensures ∙ ap unnamed c.deref.ensures.value) in
    let h = missing (λ x. x) (document_view d) _ c.in_err-request.field-0.0
    (λ none. no-style d.entries.items (unnamed d.styles.items) (map locale_view d.locales.items) (asked_view d.job)
    ((λ i. slice_get (styles i) d.job.wanted.style) ∙ none))
    c.in_err-request.ensures.missing in
    search (rules, h)

pub returns-in_err-rendered : goal.returns-in_err-rendered
returns-in_err-rendered c =
    let d = c.args.self.now in
    let v = driver_view c.in_ok-driver.driver in
    let w = wanted_view c.in_ok-request.request in
    let order = option_map (λ o. entries_view o.items) c.in_ok-order.order in
    let locales = sym (c.in_ok-files.ensures ∙ c.deref-2.ensures.value) in
    let styles = sym (ap found_views c.deref-3.ensures.value ∙ c.in_ok-found.ensures ∙ ap unnamed c.deref.ensures.value) in
    let entries = sym c.deref-4.ensures.value in
    let requests = sym c.deref-5.ensures.value in
    let asks = asks-for d.entries.items (unnamed d.styles.items) (map locale_view d.locales.items) (asked_view d.job) v w order
    ((λ i. option_map (λ rs. accepted (map (request_with (map locale_view (locales i))) rs)) (each_of (request_at (slice_get (entries i)) (slice_get (styles i))) (asked_requests_view (requests i))))
    ∙ c.in_ok-driver.ensures.requests)
    c.in_ok-driver.ensures.offset
    ((λ i. order_at (slice_get (entries i)) (asked_bibliography_view d.job.wanted).order) ∙ c.in_ok-order.ensures.order)
    ((λ i. option_map (wanted_with (asked_bibliography_view d.job.wanted).locale (map locale_view (locales i)) order) (slice_get (styles i) d.job.wanted.style)) ∙ c.in_ok-request.ensures.wanted) in
    let h = refused-with v w asks.document asks.made asks.wanted (λ x. x) asks.document refl c.in_err-rendered.field-0.0 c.in_err-rendered.ensures.refused in
    let at_view = subst (λ read. IsRefusedFor (λ x. x) (refused (own_error c.in_err-rendered.field-0.0)) read) (sym asks.is) h in
    search (rules, at_view)
