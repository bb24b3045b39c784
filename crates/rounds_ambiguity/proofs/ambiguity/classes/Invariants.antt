use Rattle.std.proofs.Common.{take}
use Rattle.std.specs.List.{enumerate_from, flat_map}
use Rattle.driver_passes.specs.RendersView.{renders_view}
use Rattle.rounds_ambiguity.specs.Ambiguity.{without_suffix}
use Rattle.rounds_ambiguity.specs.ClassesSoFar.{AreClassesOf}
use Rattle.rounds_ambiguity.specs.Members.{request_cites}
use Rattle.rounds_ambiguity.proofs.ambiguity.classes.Given as goal

abbrev pub invariant-loop-r : goal.invariant-loop-r
invariant-loop-r g l =
    AreClassesOf (without_suffix (flat_map (λ p. request_cites p.0 p.1) (take l.r (enumerate_from 0 (renders_view l.cites))))) l.classes
