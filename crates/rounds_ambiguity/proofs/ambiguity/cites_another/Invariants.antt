use Rattle.std.proofs.Common.{◌≡◌, drop, not}
use Rattle.std.specs.List.{list_any}
use Rattle.driver_passes.specs.RendersView.{renders_view}
use Rattle.rounds_ambiguity.specs.Members.{entry_of, members}
use Rattle.rounds_ambiguity.proofs.ambiguity.cites_another.Given as goal

abbrev pub invariant-loop-place : goal.invariant-loop-place
invariant-loop-place g l =
    list_any (λ m. not (g.T.PartialEq.eq l.entry (entry_of m))) (members (renders_view l.cites) l.places)
    ≡ list_any (λ m. not (g.T.PartialEq.eq l.entry (entry_of m))) (members (renders_view l.cites) (drop l.place-index l.places))
