use Rattle.std.proofs.Common.{map}
use Rattle.std.specs.Vec.Iter.{into_iter_items}
use Rattle.driver_passes.specs.RendersView.{renders_view}
use Rattle.rounds_ambiguity.proofs.Sifted.{IsSifted}
use Rattle.rounds_ambiguity.proofs.ambiguity.find_ambiguous_sets.Given as goal

abbrev pub invariant-loop-class : goal.invariant-loop-class
invariant-loop-class g l =
    IsSifted (renders_view l.cites) g.T.PartialEq.eq (map (λ v. v.items) l.groups.items) (map (λ v. v.items) (into_iter_items l.class-iterator))
