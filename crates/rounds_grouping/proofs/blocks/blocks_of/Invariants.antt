use Rattle.std.proofs.Common.{◌≡◌, take}
use Rattle.driver_passes.specs.RendersView.{items_view}
use Rattle.rounds_grouping.specs.Steps.{IsPaired, blocks_of, blocks_view}
use Rattle.rounds_grouping.proofs.blocks.blocks_of.Given as goal

abbrev pub invariant-loop-k : goal.invariant-loop-k
invariant-loop-k g l = record {
  paired : IsPaired l.blocks;
  blocks : blocks_view l.blocks ≡ blocks_of (items_view (take l.k l.items));
}
