use Rattle.std.proofs.Common.{◌≡◌, map, take}
use Rattle.std.specs.List.{enumerate_from}
use Rattle.driver_lookup.specs.declared.state.DisambiguateState.TheVariants.{YearSuffix}
use Rattle.rounds_ambiguity.specs.FirstCites.{firsts_view}
use Rattle.rounds_ambiguity.proofs.suffixes.numbered.Given as goal

abbrev pub invariant-loop-k : goal.invariant-loop-k
invariant-loop-k g l =
    l.marks.items ≡ map (λ p. (p.1.1, YearSuffix p.0)) (take l.k (enumerate_from 0 (firsts_view l.firsts)))
