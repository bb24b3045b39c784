use Rattle.std.proofs.Common.{◌≡◌, ◌++◌, drop, map, take}
use Rattle.driver_passes.specs.RendersView.{renders_view}
use Rattle.rounds_grouping.specs.Blocks.{grouped}
use Rattle.csl_driver.proofs.finish.group_all.Given as goal

abbrev pub invariant-loop-r : goal.invariant-loop-r
invariant-loop-r g l = renders_view l.cites ≡ map grouped (take l.r (renders_view l.initial.cites)) ++ drop l.r (renders_view l.initial.cites)
