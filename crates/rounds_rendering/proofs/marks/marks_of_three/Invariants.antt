use Rattle.std.proofs.Common.{◌≡◌, [], map, take}
use Rattle.std.specs.Prelude.{fold}
use Rattle.driver_passes.specs.RendersView.{renders_view}
use Rattle.rounds_rendering.specs.Gathered.{with_group}
use Rattle.rounds_rendering.proofs.marks.marks_of_three.Given as goal

abbrev pub invariant-loop-group : goal.invariant-loop-group
invariant-loop-group g l =
    l.marks.items ≡ fold (with_group g.T.PartialEq.eq l.dated (renders_view l.cites)) [] (map (λ p. p.items) (take l.group-index l.group-items))
