use Rattle.std.proofs.Common.{◌≡◌, Some, List, option_map, option_to_list, map, sym, ap, ◌∙◌, subst, refl}
use Rattle.value_styles.specs.Style.{LocaleValue}
use Rattle.value_styles.specs.StyleView.{locale_view}
use Rattle.driver_lookup.specs.FirstAnswer.{Gives, FirstAnswer}
use Rattle.driver_styles.specs.Terms.{locale_of}
use Rattle.driver_lookup.proofs.FirstAnswers.{one_asked}
use Rattle.driver_lookup.proofs.lookup.answer_of.Goals as goal

pub returns : goal.returns
returns g c =
    let gives = Gives g.F.Fn c.args.f.now in
    let l = locale_view c.in_ok-locale.locale.now in
    let found : Some l ≡ locale_of (option_map (λ t. t.now) c.args.language) (map locale_view c.args.locales.now) = ap (option_map (λ x. locale_view x.now)) (sym c.in_ok-locale.was) ∙ c.locale_of.ensures in
    let one : FirstAnswer gives (option_to_list (Some l)) c.f.result = one_asked gives l c.f.result (c.in_ok-locale.locale.now, refl, record { shown = c.in_ok-locale.locale; shows = refl; says = record { met = c.f.ensures } }) in
    subst (λ (xs : List LocaleValue). FirstAnswer gives xs c.f.result) (ap option_to_list found) one
