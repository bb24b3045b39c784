use Rattle.std.proofs.Common.{arith, refl}
use Rattle.std.proofs.lemmas.Grind.{common_steps}
use Rattle.value_styles.specs.StyleView.{citation_view}
use Rattle.rounds_grouping.proofs.FinalOrders.{brought-together, not-brought}
use Rattle.rounds_grouping.proofs.grouping.group_cites.Goals as goal

pub returns-in-Some-clause-laws : goal.returns-in-Some-clause-laws
returns-in-Some-clause-laws g c =
    brought-together c.bring_together.result (citation_view c.args.render.now.request.now.style.now.citation) c.in-Some.delimiter.now _ _
    (grind (arith, common_steps, c.in-Some.ensures)) (grind (arith, common_steps))

pub returns-in-None-clause-laws : goal.returns-in-None-clause-laws
returns-in-None-clause-laws g c =
    not-brought (citation_view c.args.render.now.request.now.style.now.citation) _ _ (grind (arith, common_steps, c.in-None.ensures)) refl
