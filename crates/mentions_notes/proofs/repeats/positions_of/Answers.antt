use Rattle.std.proofs.Common.{[], ap, map, sym, ◌++◌, ◌∷◌, ◌∙◌}
use Rattle.std.specs.Option.{option_and_then}
use Rattle.std.proofs.lemmas.List.{map-append}
use Rattle.mentions_notes.specs.Repeats.{before_at, positions_behind, repeatable}
use Rattle.mentions_notes.specs.Requests.{request_view, requests_view}
use Rattle.mentions_notes.proofs.Noting.{before-view}
use Rattle.list_lemmas.proofs.Stepping.{enumerate-all, here-view, made-next, past-view, within-view}
use Rattle.mentions_notes.proofs.repeats.positions_of.Goals as goal

pub loop-k-preserved : goal.loop-k-preserved
loop-k-preserved g c =
    let given = c.args.requests.now in
    let requests = requests_view given in
    let k = c.loop-k.k in
    let m = c.index-requests-k.result in
    let eq = g.L.PartialEq.eq in
    let before = c.repeatable_before-before.ensures ∙ before-view request_view (repeatable requests m.note) given k in
    ap (map (λ p. p.items)) c.in_ok-push.ensures.items ∙ map-append (λ p. p.items) c.loop-k.found.items (c.in_ok-positions_behind.field-0 ∷ [])
    ∙ (λ i. c.loop-k.invariant i ++ (c.in_ok-positions_behind.ensures ∙ (λ j. positions_behind eq (before j) (c.deref.ensures.value j))) i ∷ [])
    ∙ sym (made-next requests k (request_view m) (within-view request_view given k c.loop-k-test.true) (here-view request_view given k m c.index-requests-k.is)
    (λ p. positions_behind eq (option_and_then (repeatable requests p.1.note) (before_at requests p.0)) p.1.cites))

pub returns : goal.returns
returns g c =
    let given = c.args.requests.now in
    let requests = requests_view given in
    c.loop-k.invariant
    ∙ ap (map (λ p. positions_behind g.L.PartialEq.eq (option_and_then (repeatable requests p.1.note) (before_at requests p.0)) p.1.cites))
    (enumerate-all requests c.loop-k.k (past-view request_view given c.loop-k.k c.loop-k-test.false))
