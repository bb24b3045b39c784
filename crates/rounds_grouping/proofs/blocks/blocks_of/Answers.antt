use Rattle.std.proofs.Common.{◌∙◌}
use Rattle.driver_passes.specs.RendersView.{item_view}
use Rattle.rounds_grouping.specs.Steps.{blocks_view, key_view}
use Rattle.rounds_grouping.proofs.Entries.{cites-more}
use Rattle.rounds_grouping.proofs.blocks.blocks_of.Goals as goal

pub loop-k-preserved : goal.loop-k-preserved
loop-k-preserved g c =
    let items = c.args.items.now in
    let k = c.loop-k.k in
    record {
      paired = c.in_ok-add_place.ensures.paired;
      blocks = c.in_ok-add_place.ensures.added
          ∙ cites-more item_view items k c.index-items-k.result c.index-items-k.result (blocks_view c.loop-k.blocks) (key_view c.in_ok-key.key)
          c.loop-k-test.true c.index-items-k.is c.loop-k.invariant.blocks c.in_ok-key.ensures;
    }
