use Rattle.std.proofs.Common.{◌≡◌, drop, map, option_map}
use Rattle.value_styles.specs.StyleView.{locale_view}
use Rattle.driver_styles.specs.Terms.{locale_of}
use Rattle.driver_styles.proofs.locales.locale_of.Given as goal

abbrev pub invariant-loop-locale : goal.invariant-loop-locale
invariant-loop-locale l =
    let language = option_map (λ t. t.now) l.language in
    locale_of language (map locale_view (drop l.locale-index l.locales)) ≡ locale_of language (map locale_view l.locales)
