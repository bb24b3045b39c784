use Rattle.std.proofs.Common.{take}
use Rattle.std.specs.List.{flat_map}
use Rattle.mentions_names.specs.Gathered.{shown_at}
use Rattle.mentions_names.specs.Rivals.{TellsMore}
use Rattle.mentions_names.proofs.gathered.add_way.Given as goal

abbrev pub invariant-loop-stop : goal.invariant-loop-stop
invariant-loop-stop l = TellsMore l.fn.beside l.beside (flat_map (shown_at l.way.by_cite) (take l.stop-index l.stop-items))
