-- What tables of terms stand for: the locales that they are made of.
use Rattle.std.specs.Prelude.{List}
use Rattle.value_styles.specs.declared.locale.Locale.{Locale}
use Rattle.driver_styles.specs.declared.terms.TermTables.{TermTables}

abbrev pub locales_of : TermTables → List Locale
locales_of t = t.locales.now
