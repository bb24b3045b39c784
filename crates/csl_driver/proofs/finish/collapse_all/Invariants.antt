use Rattle.std.proofs.Common.{◌≡◌, ◌++◌, drop, map, take}
use Rattle.rounds_grouping.specs.Collapsed.{collapsed_finally}
use Rattle.driver_passes.specs.RendersView.{renders_view}
use Rattle.csl_driver.proofs.finish.collapse_all.Given as goal

abbrev pub invariant-loop-r : goal.invariant-loop-r
invariant-loop-r g l = renders_view l.cites ≡ map collapsed_finally (take l.r (renders_view l.initial.cites)) ++ drop l.r (renders_view l.initial.cites)
