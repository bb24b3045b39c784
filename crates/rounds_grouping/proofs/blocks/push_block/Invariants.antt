use Rattle.std.proofs.Common.{◌≡◌, ◌++◌, take}
use Rattle.rounds_grouping.specs.Steps.{placed_block}
use Rattle.rounds_grouping.proofs.Placing.{is_more}
use Rattle.rounds_grouping.proofs.blocks.push_block.Given as goal

abbrev pub invariant-loop-place : goal.invariant-loop-place
invariant-loop-place l = record {
  order : l.order.items ≡ l.fn.order.items ++ placed_block l.group (take l.place-index l.places);
  follows : l.follows ≡ is_more (take l.place-index l.places);
}
