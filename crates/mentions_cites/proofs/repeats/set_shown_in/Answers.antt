use Rattle.std.proofs.Common.{◌<◌, ◌≤◌, arith, length, min, refl, ◌∙◌}
use Rattle.mentions_tables.proofs.Changing.{changed-more, changed-none}
use Rattle.mentions_cites.specs.Repeats.{with_shown}
use Rattle.mentions_cites.proofs.Beside.{enough}
use Rattle.mentions_cites.proofs.repeats.set_shown_in.Goals as goal

pub loop-k-init : goal.loop-k-init
loop-k-init g c = changed-none with_shown c.args.shown.now c.args.cites.now

pub loop-k-preserved : goal.loop-k-preserved
loop-k-preserved g c =
    let shown = c.args.shown.now in
    let old = c.args.cites.now in
    let k = c.loop-k.k in
    let v : k < length shown = omega arith in
    let w : k < length old = omega arith in
    changed-more with_shown k shown old c.loop-k.cites _ _ c.index-cites-k.result c.set_shown_of.new.cite c.loop-k.invariant v w refl c.set_shown_of.ensures

pub returns : goal.returns
returns g c =
    let shown = c.args.shown.now in
    let old = c.args.cites.now in
    let past : min (length shown) (length old) ≤ c.loop-k.k = omega arith in
    c.loop-k.invariant ∙ enough with_shown c.loop-k.k shown old past
