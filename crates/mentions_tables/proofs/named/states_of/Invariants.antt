use Rattle.std.proofs.Common.{◌≡◌, ◌++◌, map}
use Rattle.std.specs.Vec.Iter.{into_iter_items}
use Rattle.mentions_tables.specs.Steps.{state_of}
use Rattle.mentions_tables.proofs.named.states_of.Given as goal

abbrev pub invariant-loop-names : goal.invariant-loop-names
invariant-loop-names l = l.states.items ++ map state_of (into_iter_items l.names-iterator) ≡ map state_of l.fn.told.items
