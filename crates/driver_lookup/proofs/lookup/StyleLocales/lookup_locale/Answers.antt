use Rattle.driver_lookup.specs.FirstAnswer.{Gives}
use Rattle.driver_lookup.proofs.FirstAnswers.{answered_first, answered_then}
use Rattle.driver_lookup.proofs.lookup.StyleLocales.lookup_locale.Goals as goal

pub returns-in-Some : goal.returns-in-Some
returns-in-Some g c = answered_first (Gives g.F.Fn c.args.f) _ _ _ c.in-Some.ensures

pub returns : goal.returns
returns g c = answered_then (Gives g.F.Fn c.args.f) _ _ _ c.in-None.ensures c.answer_of_files.ensures
