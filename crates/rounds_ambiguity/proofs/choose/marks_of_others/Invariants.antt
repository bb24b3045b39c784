use Rattle.std.proofs.Common.{◌≡◌, ◌++◌, drop, filter, map, not, ◌&&◌}
use Rattle.driver_lookup.specs.declared.state.DisambiguateState.TheVariants.{Choose}
use Rattle.driver_passes.specs.RendersView.{renders_view}
use Rattle.rounds_ambiguity.specs.ChooseMarks.{asks}
use Rattle.rounds_ambiguity.specs.Members.{entry_of, members}
use Rattle.rounds_ambiguity.proofs.choose.marks_of_others.Given as goal

abbrev pub invariant-loop-place : goal.invariant-loop-place
invariant-loop-place g l =
    l.marks.items
    ++ map (λ m. (m.place, Choose)) (filter (λ m. asks m && not (g.T.PartialEq.eq l.spared (entry_of m))) (members (renders_view l.cites) (drop l.place-index l.group)))
    ≡ map (λ m. (m.place, Choose)) (filter (λ m. asks m && not (g.T.PartialEq.eq l.spared (entry_of m))) (members (renders_view l.cites) l.group))
