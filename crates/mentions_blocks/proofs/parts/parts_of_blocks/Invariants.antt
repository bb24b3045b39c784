use Rattle.std.proofs.Common.{◌≡◌, map}
use Rattle.std.specs.List.{range_with_len}
use Rattle.mentions_blocks.specs.Parts.{part_at}
use Rattle.mentions_blocks.proofs.Parting.{begins_before, names_before}
use Rattle.mentions_blocks.proofs.Placing.{before_at}
use Rattle.mentions_blocks.proofs.parts.parts_of_blocks.Given as goal

abbrev pub invariant-loop-place : goal.invariant-loop-place
invariant-loop-place l = record {
  begins : l.part.begins ≡ begins_before l.cites l.place;
  names : l.part.names ≡ names_before l.cites l.place;
  before : l.before ≡ before_at l.cites l.place;
  parts : l.parts.items ≡ map (part_at l.cites) (range_with_len 0 l.place);
}
