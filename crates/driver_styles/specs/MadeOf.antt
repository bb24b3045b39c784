-- A style and locale files beside what was prepared of them, if anything was.
use Rattle.std.specs.Prelude.{◌≡◌, List, Option}
use Rattle.std.specs.Coded.{Coded-set, coded_list}
use Rattle.std.specs.Option.{ForSome}
use Rattle.value_styles.specs.contracts.locale.Locale as locale_
use Rattle.value_styles.specs.contracts.style.IndependentStyle as style_
use Rattle.value_styles.specs.declared.locale.Locale.{Locale}
use Rattle.value_styles.specs.declared.style.IndependentStyle.{IndependentStyle}
use Rattle.driver_styles.specs.declared.prepared.PreparedSource.{PreparedSource}
use Rattle.driver_styles.specs.PreparedView.{made_of}
use Rattle.driver_styles.specs.TablesView.{locales_of}

-- what was prepared, where there is any, was made of this style and these files
abbrev pub IsOf : Option PreparedSource → IndependentStyle → List Locale → Type 0
IsOf prepared style files =
    ForSome prepared (λ p. (made_of p.style.now ≡ style) × (locales_of p.files.now ≡ files))

-- for ghost fields: there are no two proofs of that
pub IsOf-prop : (prepared : Option PreparedSource) (style : IndependentStyle) (files : List Locale)
    → IsProp (IsOf prepared style files)
IsOf-prop prepared style files x y = λ i p e. (
  Coded-set style_.the_row.coded (made_of p.style.now) style (x p e).0 (y p e).0 i,
  Coded-set (coded_list locale_.the_row.coded) (locales_of p.files.now) files (x p e).1 (y p e).1 i,
)
