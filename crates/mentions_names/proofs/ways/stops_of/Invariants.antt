use Rattle.mentions_names.proofs.Walking.{AreSoFar}
use Rattle.mentions_names.proofs.ways.stops_of.Given as goal

abbrev pub invariant-loop-look : goal.invariant-loop-look
invariant-loop-look l = AreSoFar l.fn.steps.keys l.steps.keys l.group l.looks l.look-index l.node l.stops.items
