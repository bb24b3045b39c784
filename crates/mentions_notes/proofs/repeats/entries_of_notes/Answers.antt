use Rattle.std.proofs.Common.{not, ◌&&◌, ◌∙◌}
use Rattle.std.specs.Prelude.{nat_eq}
use Rattle.std.specs.HashMap.{get}
use Rattle.std.specs.List.{list_any}
use Rattle.mentions_notes.specs.Noted.{is_other}
use Rattle.mentions_notes.specs.Repeats.{is_note}
use Rattle.mentions_notes.specs.Requests.{request_view, requests_view}
use Rattle.mentions_notes.proofs.Noting.{all-noted, no-notes, requests-noted}
use Rattle.list_lemmas.proofs.Stepping.{here-view, past-view, within-view}
use Rattle.mentions_notes.proofs.repeats.entries_of_notes.Goals as goal

pub loop-request-init : goal.loop-request-init
loop-request-init g c = no-notes c.new-noted.result c.new-noted.ensures.empty

pub loop-request-preserved : goal.loop-request-preserved
loop-request-preserved g c = λ n e.
    let requests = c.args.requests.now in
    let k = c.loop-request.request-index in
    requests-noted (λ r. is_note n r.note && list_any (λ x. not (nat_eq e x.entry)) r.cites) (requests_view requests) k (request_view c.request-item.result)
    (within-view request_view requests k c.loop-request-test.true) (here-view request_view requests k c.request-item.result c.request-item.is)
    (is_other e (get nat_eq c.loop-request.noted n)) (is_other e (get nat_eq c.note_request.new.noted n)) (c.loop-request.invariant n e) (c.in_ok-note_request.ensures n e)

pub returns : goal.returns
returns g c = λ n e.
    c.loop-request.invariant n e
    ∙ all-noted (λ r. is_note n r.note && list_any (λ x. not (nat_eq e x.entry)) r.cites) (requests_view c.args.requests.now) c.loop-request.request-index
    (past-view request_view c.args.requests.now c.loop-request.request-index c.loop-request-test.false)
