use Rattle.std.proofs.Common.{◌<◌, ◌≤◌, ap, arith, length, sym, ◌∙◌}
use Rattle.std.proofs.Math.ListN.{length-map}
use Rattle.rounds_grouping.specs.Collapsed.{collapsed_finally}
use Rattle.driver_passes.specs.RendersView.{render_view, renders_view}
use Rattle.csl_driver.proofs.Halves.{changed-all, changed-more}
use Rattle.csl_driver.proofs.finish.collapse_all.Goals as goal

pub loop-r-preserved : goal.loop-r-preserved
loop-r-preserved g c =
    let first = c.args.cites.now in
    let long = length-map first render_view in
    let within : c.loop-r.r < length (renders_view first) = omega (arith, c.loop-r-test.true, long) in
    changed-more render_view collapsed_finally c.loop-r.cites (renders_view first) c.loop-r.r c.loop-r.invariant c.index-cites-r.result c.collapse_cites.new.render within c.index-cites-r.is
    (c.collapse_cites.ensures ∙ ap (λ x. collapsed_finally (render_view x)) (sym c.index-cites-r.is))

pub returns : goal.returns
returns g c =
    let first = c.args.cites.now in
    let long = length-map first render_view in
    let past : length (renders_view first) ≤ c.loop-r.r = omega (arith, c.loop-r-test.false, long) in
    changed-all render_view collapsed_finally c.loop-r.cites (renders_view first) c.loop-r.r c.loop-r.invariant past
