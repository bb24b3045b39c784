use Rattle.std.proofs.Common.{◌≡◌, ◌++◌, filter}
use Rattle.std.specs.Vec.Iter.{into_iter_items}
use Rattle.driver_passes.specs.RendersView.{renders_view}
use Rattle.rounds_runs.specs.RoundMarks.{counts}
use Rattle.rounds_rendering.proofs.counting.counting.Given as goal

abbrev pub invariant-loop-place : goal.invariant-loop-place
invariant-loop-place g l =
    l.kept.items ++ filter (counts (renders_view l.cites)) (into_iter_items l.place-iterator) ≡ filter (counts (renders_view l.cites)) l.fn.marks.items
