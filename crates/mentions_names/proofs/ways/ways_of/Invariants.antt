use Rattle.std.proofs.Common.{◌≡◌, map, take}
use Rattle.std.specs.Prelude.{All}
use Rattle.mentions_names.specs.Reaches.{reach}
use Rattle.mentions_names.specs.Ways.{AllMade, way_of}
use Rattle.mentions_names.proofs.ways.ways_of.Given as goal

abbrev pub invariant-loop-mention : goal.invariant-loop-mention
invariant-loop-mention l = record {
  ways : l.ways.items ≡ map (way_of l.steps.keys) (map (reach l.mentions) (take l.mention-index l.mentions));
  made : All (AllMade l.steps.keys) (map (reach l.mentions) (take l.mention-index l.mentions));
}
