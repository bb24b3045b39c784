use Rattle.std.proofs.Common.{◌+◌, ◌-◌, map, length}
use Rattle.value_styles.specs.Calls.{calls_of_all}
use Rattle.value_styles.specs.ElementView.{elements_view}
use Rattle.driver_styles.specs.MacrosOf.{macros_of}
use Rattle.driver_styles.proofs.NameLists.{left}
use Rattle.driver_styles.proofs.Suffixes.{IsGathered}
use Rattle.driver_styles.proofs.suffix_text.suffix_stands.Given as goal

abbrev pub invariant-loop-at : goal.invariant-loop-at
invariant-loop-at l = IsGathered (macros_of l.macros) (calls_of_all (elements_view l.elements)) (map (λ s. s.now) l.names.keys) l.at

abbrev pub decreases-loop-at : goal.decreases-loop-at
decreases-loop-at l =
    let names = map (λ s. s.now) l.names.keys in
    left names (macros_of l.macros) + (length names - l.at)
