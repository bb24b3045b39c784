use Rattle.std.proofs.Common.{ap, ◌∙◌, Some, refl}
use Rattle.driver_lookup.specs.Lookup.{base_language}
use Rattle.driver_lookup.specs.FirstAnswer.{Gives}
use Rattle.driver_lookup.proofs.FirstAnswers.{answered_first, answered_then, asked_at}
use Rattle.driver_lookup.proofs.lookup.StyleLocales.answer_of_own.Goals as goal

pub returns-in-Some-answer_of : goal.returns-in-Some-answer_of
returns-in-Some-answer_of g c =
    let gives = Gives g.F.Fn c.args.f.now in
    let own = c.as_slice-own.ensures.value in
    let exact = asked_at gives _ _ _ _ _ (ap Some c.locale.ensures) own c.in_default.ensures in
    let base = asked_at gives _ _ _ _ _ (ap Some (c.base_language.ensures ∙ ap base_language c.locale-2.ensures)) own c.in-Some-answer_of.ensures in
    answered_first gives _ _ _ (answered_then gives _ _ _ exact base)

pub returns : goal.returns
returns g c =
    let gives = Gives g.F.Fn c.args.f.now in
    let own = c.as_slice-own.ensures.value in
    let exact = asked_at gives _ _ _ _ _ (ap Some c.locale.ensures) own c.in_default.ensures in
    let base = asked_at gives _ _ _ _ _ (ap Some (c.base_language.ensures ∙ ap base_language c.locale-2.ensures)) own c.in_default-answer_of.ensures in
    let any = asked_at gives _ _ _ _ _ refl own c.answer_of-3.ensures in
    answered_then gives _ _ _ (answered_then gives _ _ _ exact base) any
