use Rattle.std.proofs.Common.{◌++◌, List, take}
use Rattle.driver_passes.specs.RendersView.{render_view}
use Rattle.rounds_ambiguity.specs.Ambiguity.{without_suffix}
use Rattle.rounds_ambiguity.specs.ClassesSoFar.{AreClassesOf}
use Rattle.rounds_ambiguity.specs.Members.{Member, request_cites}
use Rattle.rounds_ambiguity.proofs.ambiguity.add_cites.Given as goal

abbrev pub invariant-loop-k : goal.invariant-loop-k
invariant-loop-k g l =
    (cites : List (Member g.row.T.Denot g.row.P.Denot)) → AreClassesOf (without_suffix cites) l.fn.classes
    → AreClassesOf (without_suffix (cites ++ take l.k (request_cites l.request (render_view l.render)))) l.classes
