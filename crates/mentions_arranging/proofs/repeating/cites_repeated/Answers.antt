use Rattle.std.proofs.Common.{arith, ◌<◌, ◌≤◌, ap, length, map, min, ◌∙◌}
use Rattle.mentions_arranging.specs.Repeating.{all_repeated}
use Rattle.mentions_arranging.specs.Requests.{request_view}
use Rattle.mentions_arranging.proofs.Walking.{all-pairs, seen-pairs-next}
use Rattle.mentions_arranging.proofs.repeating.cites_repeated.Goals as goal

pub loop-k-preserved : goal.loop-k-preserved
loop-k-preserved g c =
    let given = c.args.requests.now in
    let k = c.loop-k.k in
    let found = c.in_ok-positions.positions.items in
    let m = c.index-requests-k.result in
    let first : k < length given = omega (arith, c.min-count.ensures, c.len.ensures) in
    let second : k < length found = omega (arith, c.min-count.ensures, c.len.ensures) in
    seen-pairs-next request_view (λ p. p.items) all_repeated given found k m c.index.result.now first second c.index-requests-k.is c.index.ensures (λ r. r.items) c.loop-k.found.items
    c.push.new.self.items c.in_ok-all_repeated.field-0 c.loop-k.invariant (c.in_ok-all_repeated.ensures ∙ ap (λ ps. all_repeated (request_view m, ps)) c.deref.ensures.value)
    c.in_ok-push.ensures.items

pub returns : goal.returns
returns g c =
    let given = c.args.requests.now in
    let k = c.loop-k.k in
    let found = c.in_ok-positions.positions.items in
    let past : min (length given) (length found) ≤ k = omega (arith, c.min-count.ensures, c.len.ensures) in
    all-pairs request_view (λ p. p.items) all_repeated given found k past (map (λ r. r.items) c.loop-k.found.items) c.loop-k.invariant _ c.in_ok-positions.ensures
