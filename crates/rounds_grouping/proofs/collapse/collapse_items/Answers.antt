use Rattle.std.proofs.Common.{arith}
use Rattle.std.proofs.lemmas.Grind.{common_steps}
use Rattle.driver_passes.specs.RendersView.{render_view}
use Rattle.rounds_grouping.proofs.ReadBack.{by-collapse}
use Rattle.rounds_grouping.proofs.collapse.collapse_items.Goals as goal

pub returns-in-Some-CitationNumber-clause-laws : goal.returns-in-Some-CitationNumber-clause-laws
returns-in-Some-CitationNumber-clause-laws g c = by-collapse (render_view c.args.render.now).request.style.citation _ _ (grind (arith, common_steps))

pub returns-in-Some-YearSuffix-clause-laws : goal.returns-in-Some-YearSuffix-clause-laws
returns-in-Some-YearSuffix-clause-laws g c = by-collapse (render_view c.args.render.now).request.style.citation _ _ (grind (arith, common_steps))

pub returns-in-Some-Year-clause-laws : goal.returns-in-Some-Year-clause-laws
returns-in-Some-Year-clause-laws g c = by-collapse (render_view c.args.render.now).request.style.citation _ _ (grind (arith, common_steps))
