use Rattle.std.proofs.Common.{arith, ◌<◌, ◌≤◌, ap, length, min, ◌∙◌}
use Rattle.mentions_arranging.specs.Repeating.{first_repeated}
use Rattle.mentions_arranging.specs.Requests.{request_view}
use Rattle.mentions_arranging.proofs.Walking.{all-pairs, pairs-next}
use Rattle.mentions_arranging.proofs.repeating.firsts_repeated.Goals as goal

pub loop-k-preserved : goal.loop-k-preserved
loop-k-preserved g c =
    let given = c.args.requests.now in
    let k = c.loop-k.k in
    let found = c.in_ok-positions.positions.items in
    let m = c.index-requests-k.result in
    let first : k < length given = omega (arith, c.min-count.ensures, c.len.ensures) in
    let second : k < length found = omega (arith, c.min-count.ensures, c.len.ensures) in
    pairs-next request_view (λ p. p.items) first_repeated given found k m c.index.result.now first second c.index-requests-k.is c.index.ensures c.loop-k.found.items c.push.new.self.items
    c.first_repeated.result c.loop-k.invariant (c.first_repeated.ensures ∙ ap (λ ps. first_repeated (request_view m, ps)) c.deref.ensures.value) c.in_ok-push.ensures.items

pub returns : goal.returns
returns g c =
    let given = c.args.requests.now in
    let k = c.loop-k.k in
    let found = c.in_ok-positions.positions.items in
    let past : min (length given) (length found) ≤ k = omega (arith, c.min-count.ensures, c.len.ensures) in
    all-pairs request_view (λ p. p.items) first_repeated given found k past c.loop-k.found.items c.loop-k.invariant _ c.in_ok-positions.ensures
