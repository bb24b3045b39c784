use Rattle.driver_passes.specs.RendersView.{item_view, renders_view}
use Rattle.rounds_ambiguity.proofs.Different.{different}
use Rattle.rounds_ambiguity.proofs.ambiguity.cite_different.Goals as goal

pub returns-in-Some : goal.returns-in-Some
returns-in-Some g c =
    different g.T.PartialEq.eq g.met.T.Eq.laws (renders_view c.args.cites.now) c.args.places.now c.in-Some.first.now (item_view c.member_at.result.now) c.cites_another.result
    c.in-Some.ensures.value c.member_at.ensures c.cites_another.ensures
