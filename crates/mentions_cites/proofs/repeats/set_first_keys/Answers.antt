use Rattle.std.proofs.Common.{◌<◌, ◌≤◌, arith, length, min}
use Rattle.std.proofs.lemmas.List.{get_or_default}
use Rattle.mentions_arranging.specs.Requests.{request_view, requests_view}
use Rattle.mentions_tables.proofs.Changing.{changed-none}
use Rattle.mentions_cites.specs.Repeats.{with_first_key}
use Rattle.mentions_cites.proofs.Beside.{beside-all, beside-next}
use Rattle.mentions_cites.proofs.repeats.set_first_keys.Goals as goal

pub loop-k-init : goal.loop-k-init
loop-k-init g c = changed-none with_first_key c.args.shown.now (requests_view c.args.requests.now)

pub loop-k-preserved : goal.loop-k-preserved
loop-k-preserved g c =
    let shown = c.args.shown.now in
    let old = c.args.requests.now in
    let k = c.loop-k.k in
    let v : k < length shown = omega arith in
    let w : k < length old = omega arith in
    beside-next request_view with_first_key shown old c.loop-k.requests k c.loop-k.invariant _ c.index-requests-k.result c.set_first_key.new.request v w (get_or_default shown k _ _ v) c.set_first_key.ensures

pub returns : goal.returns
returns g c =
    let shown = c.args.shown.now in
    let old = c.args.requests.now in
    let past : min (length shown) (length old) ≤ c.loop-k.k = omega arith in
    beside-all request_view with_first_key shown old c.loop-k.requests c.loop-k.k c.loop-k.invariant past
