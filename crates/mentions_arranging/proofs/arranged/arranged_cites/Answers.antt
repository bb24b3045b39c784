use Rattle.std.proofs.Common.{arith, ◌<◌, ◌≤◌, ap, length, map, min, subst, sym, ◌∙◌}
use Rattle.mentions_arranging.specs.Arranged.{arranged_request}
use Rattle.mentions_arranging.specs.Requests.{request_view}
use Rattle.mentions_arranging.proofs.Walking.{all-have-positions, all-pairs, arranged_pair, seen-pairs-next}
use Rattle.mentions_arranging.proofs.arranged.arranged_cites.Goals as goal

pub index-requires : goal.index-requires
index-requires g c =
    let positions = c.in_ok-positions.positions in
    let within : c.loop-k.k < length positions.items =
    subst (λ n. c.loop-k.k < n) (sym (all-have-positions g.L.PartialEq.eq c.args.requests.now (λ p. p.items) positions.items c.in_ok-positions.ensures)) c.loop-k-test.true in
    omega (arith, within, positions.ok.0)

pub loop-k-preserved : goal.loop-k-preserved
loop-k-preserved g c =
    let given = c.args.requests.now in
    let k = c.loop-k.k in
    let numbers = c.args.numbers.now in
    let m = c.index-requests-k.result in
    let found = c.in_ok-positions.positions.items in
    let within = c.loop-k-test.true in
    let has = subst (λ n. k < n) (sym (all-have-positions g.L.PartialEq.eq given (λ p. p.items) found c.in_ok-positions.ensures)) within in
    seen-pairs-next request_view (λ p. p.items) (arranged_pair numbers) given found k m c.index.result.now within has c.index-requests-k.is c.index.ensures (λ a. a.items) c.loop-k.arranged.items
    c.push.new.self.items c.in_ok-arranged_request.field-0 c.loop-k.invariant (c.in_ok-arranged_request.ensures ∙ ap (arranged_request numbers (request_view m)) c.deref.ensures.value)
    c.in_ok-push.ensures.items

pub returns : goal.returns
returns g c =
    let given = c.args.requests.now in
    let k = c.loop-k.k in
    let found = c.in_ok-positions.positions.items in
    let past : min (length given) (length found) ≤ k = omega (arith, c.loop-k-test.false) in
    all-pairs request_view (λ p. p.items) (arranged_pair c.args.numbers.now) given found k past (map (λ a. a.items) c.loop-k.arranged.items) c.loop-k.invariant _ c.in_ok-positions.ensures
