use Rattle.std.proofs.Common.{◌≡◌, map, take}
use Rattle.std.specs.HashMap.{get}
use Rattle.std.specs.List.{enumerate_from}
use Rattle.mentions_blocks.specs.Blocks.{placed_cite}
use Rattle.mentions_blocks.specs.Firsts.{same_key}
use Rattle.mentions_blocks.specs.declared.blocks.BlockKey.{BlockKey}
use Rattle.mentions_blocks.proofs.Placing.{before_at, known, part_before}
use Rattle.mentions_blocks.proofs.blocks.placed_cites.Given as goal

abbrev pub invariant-loop-place : goal.invariant-loop-place
invariant-loop-place l = record {
  part : l.part ≡ part_before l.cites l.place;
  before : l.before ≡ before_at l.cites l.place;
  firsts : (q : BlockKey) → get same_key l.firsts q ≡ known l.cites l.place q;
  placed : l.placed.items ≡ map (placed_cite l.cites) (take l.place (enumerate_from 0 l.cites));
}
