use Rattle.std.proofs.Common.{map}
use Rattle.std.specs.Vec.Iter.{into_iter_items}
use Rattle.rounds_rendering.proofs.Raising.{SoFar}
use Rattle.rounds_rendering.proofs.states.greatest_marks.Given as goal

abbrev pub invariant-loop-at : goal.invariant-loop-at
invariant-loop-at l = SoFar (map (λ ps. ps.items) l.places) l.count l.fn.marks.items l.states.items (into_iter_items l.at-iterator)
