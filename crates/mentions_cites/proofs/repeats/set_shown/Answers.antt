use Rattle.std.proofs.Common.{◌≡◌, ◌<◌, ◌≤◌, ap, arith, get_or, length, map, min, ◌∙◌}
use Rattle.std.proofs.lemmas.List.{length-map}
use Rattle.mentions_arranging.specs.Requests.{request_view, requests_view}
use Rattle.mentions_tables.proofs.Changing.{changed-none}
use Rattle.mentions_cites.specs.Repeats.{cites_with_shown}
use Rattle.mentions_cites.proofs.Beside.{beside-all, beside-next}
use Rattle.mentions_cites.proofs.Triples.{seen-here, seen-there}
use Rattle.mentions_cites.proofs.repeats.set_shown.Goals as goal

pub loop-k-init : goal.loop-k-init
loop-k-init g c = changed-none cites_with_shown (map (λ s. s.items) c.args.shown.now) (requests_view c.args.requests.now)

pub loop-k-preserved : goal.loop-k-preserved
loop-k-preserved g c =
    let shown = c.args.shown.now in
    let lists = map (λ s. s.items) shown in
    let old = c.args.requests.now in
    let k = c.loop-k.k in
    let one = c.index-shown-k.result in
    let v : k < length shown = omega arith in
    let w : k < length old = omega arith in
    beside-next request_view cites_with_shown lists old c.loop-k.requests k c.loop-k.invariant one.items c.index-requests-k.result c.set_shown_of_request.new.request (seen-there (λ s. s.items) shown k v) w
    (seen-here (λ s. s.items) shown k one c.index-shown-k.is)
    (c.set_shown_of_request.ensures ∙ ap (λ s. cites_with_shown s (request_view (get_or c.loop-k.requests k c.index-requests-k.result))) c.deref.ensures.value)

pub returns : goal.returns
returns g c =
    let shown = c.args.shown.now in
    let lists = map (λ s. s.items) shown in
    let old = c.args.requests.now in
    let long : length lists ≡ length shown = length-map shown (λ s. s.items) in
    let past : min (length lists) (length old) ≤ c.loop-k.k = omega (arith, long) in
    beside-all request_view cites_with_shown lists old c.loop-k.requests c.loop-k.k c.loop-k.invariant past
