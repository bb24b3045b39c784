use Rattle.std.proofs.Common.{◌≡◌, length, drop}
use Rattle.value_styles.specs.Places.{IsMarked, add_each}
use Rattle.value_styles.proofs.graph.add_places.Given as goal

abbrev pub invariant-loop-place : goal.invariant-loop-place
invariant-loop-place l =
    (add_each (drop l.place-index l.places) l.found.items ≡ add_each l.places l.initial.found.items)
    × IsMarked l.marks.items l.found.items
    × (length l.marks.items ≡ length l.initial.marks.items)
