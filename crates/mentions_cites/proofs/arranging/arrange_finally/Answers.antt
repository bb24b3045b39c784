use Rattle.std.proofs.Common.{◌<◌, ◌≤◌, arith, length, min}
use Rattle.driver_passes.specs.RendersView.{render_view}
use Rattle.mentions_cites.proofs.Setting.{request-next, requests-all, requests-none}
use Rattle.mentions_cites.proofs.arranging.arrange_finally.Goals as goal

pub loop-r-init : goal.loop-r-init
loop-r-init g c = requests-none (λ a. a.items) render_view c.args.numbers.now c.args.requests.now c.args.arranged.now c.args.cites.now

pub loop-r-preserved : goal.loop-r-preserved
loop-r-preserved g c =
    let requests = c.args.requests.now in
    let arranged = c.args.arranged.now in
    let old = c.args.cites.now in
    let r = c.loop-r.r in
    let v : r < length requests = omega arith in
    let w : r < length arranged = omega arith in
    let u : r < length old = omega arith in
    request-next (λ a. a.items) render_view c.args.numbers.now requests arranged old c.loop-r.cites r c.loop-r.invariant c.index-requests-r.result c.index-arranged-r.result c.index-cites-r.result
    c.arrange_request.new.render c.deref.result.now v w u c.index-requests-r.is c.index-arranged-r.is c.deref.ensures.value c.arrange_request.ensures

pub returns : goal.returns
returns g c =
    let requests = c.args.requests.now in
    let arranged = c.args.arranged.now in
    let old = c.args.cites.now in
    let r = c.loop-r.r in
    let past : min (min (length old) (length requests)) (length arranged) ≤ r = omega arith in
    requests-all (λ a. a.items) render_view c.args.numbers.now requests arranged old c.loop-r.cites r c.loop-r.invariant past
