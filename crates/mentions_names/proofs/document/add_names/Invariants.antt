use Rattle.std.proofs.Common.{take}
use Rattle.std.specs.List.{flat_map}
use Rattle.mentions_names.specs.Known.{person_keys}
use Rattle.mentions_names.specs.Rivals.{TellsMore}
use Rattle.mentions_names.proofs.document.add_names.Given as goal

abbrev pub invariant-loop-name : goal.invariant-loop-name
invariant-loop-name l = TellsMore l.fn.rivals l.rivals (flat_map person_keys (take l.name-index l.names))
