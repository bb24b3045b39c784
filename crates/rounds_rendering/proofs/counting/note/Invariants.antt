use Rattle.std.proofs.Common.{◌≡◌, length, map, take}
use Rattle.rounds_rendering.specs.Gathered.{AreMarked}
use Rattle.rounds_rendering.proofs.counting.note.Given as goal

abbrev pub invariant-loop-mark : goal.invariant-loop-mark
invariant-loop-mark l = record {
  long : length l.marked ≡ length l.initial.marked;
  noted : AreMarked (map (λ ps. ps.items) l.places) (take l.mark-index l.mark-items) l.initial.marked l.marked;
}
