use Rattle.std.proofs.Common.{◌≡◌, ◌≤◌, ◌++◌, drop}
use Rattle.rounds_grouping.specs.Steps.{blocks_view, keyed, placed_blocks}
use Rattle.rounds_grouping.proofs.blocks.order_of.Given as goal

abbrev pub invariant-loop-b : goal.invariant-loop-b
invariant-loop-b l = record {
  order : l.order.items ++ placed_blocks l.next (keyed (drop l.b l.blocks.keys.keys) (drop l.b l.blocks.places.items)) ≡ placed_blocks 0 (blocks_view l.blocks);
  next : l.next ≤ l.b;
}
