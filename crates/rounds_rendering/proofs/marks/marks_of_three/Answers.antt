use Rattle.std.proofs.Common.{[], ap, map, ◌∙◌}
use Rattle.std.specs.Prelude.{fold}
use Rattle.std.proofs.lemmas.List.{take_all}
use Rattle.driver_passes.specs.RendersView.{renders_view}
use Rattle.rounds_rendering.specs.Gathered.{with_group}
use Rattle.rounds_rendering.proofs.Walk.{three-is}
use Rattle.rounds_rendering.proofs.marks.marks_of_three.Goals as goal

pub returns : goal.returns
returns g c =
    let rs = renders_view c.args.cites.now in
    let eq = g.T.PartialEq.eq in
    c.loop-group.invariant
    ∙ ap (λ l. fold (with_group eq c.shows_dates-dated.result rs) [] (map (λ p. p.items) l)) (take_all c.loop-group.group-index c.deref-group-items.result.now c.loop-group-test.false)
    ∙ three-is eq g.T.EntryLike.answers rs c.shows_dates-dated.result _ c.shows_dates-dated.ensures (ap (map (λ p. p.items)) c.deref-group-items.ensures.value ∙ c.in_ok-groups.ensures.groups)
