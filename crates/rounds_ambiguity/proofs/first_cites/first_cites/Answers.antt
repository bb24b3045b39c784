use Rattle.std.proofs.Common.{get_or, refl}
use Rattle.driver_passes.specs.RendersView.{item_view, renders_view}
use Rattle.rounds_ambiguity.proofs.FirstOnes.{first-all, first-more}
use Rattle.rounds_ambiguity.proofs.Walks.{next}
use Rattle.rounds_ambiguity.proofs.first_cites.first_cites.Goals as goal

pub loop-place-preserved : goal.loop-place-preserved
loop-place-preserved g c =
    let cites = renders_view c.args.cites.now in
    first-more g.T.PartialEq.eq cites c.args.group.now c.loop-place.place-index (0, 0) (item_view c.member_at.result.now) (record { entry = c.member_at.result.now.entry; place = get_or c.args.group.now c.loop-place.place-index (0, 0) }) c.loop-place.firsts.keys c.insert.new.self.keys _
    (next cites (λ m. m.item) c.args.group.now c.loop-place.place-index (0, 0) (item_view c.member_at.result.now) c.loop-place-test.true c.member_at.ensures)
    refl refl c.in_ok-insert.ensures.keys c.loop-place.invariant

pub returns : goal.returns
returns g c =
    first-all g.T.PartialEq.eq (renders_view c.args.cites.now) c.args.group.now c.loop-place.place-index g.met.T.Eq.laws _ c.loop-place-test.false c.loop-place.invariant
