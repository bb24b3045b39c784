-- What a closure answers of locales that are asked in turn.
use Rattle.std.specs.Prelude.{◌≡◌, ◌⊎◌, List, [], ◌∷◌, Option, None, IsSome}
use Rattle.std.specs.Fn.{Shared, FnReturnsAt}
use Rattle.std.specs.Borrow.{Bor}
use Rattle.value_styles.specs.declared.locale.Locale.{Locale}
use Rattle.value_styles.specs.Style.{LocaleValue}
use Rattle.value_styles.specs.StyleView.{locale_view}

module _ {R : Type 0} where
  -- f may answer r of a locale that stands for l
  abbrev pub Gives : {F : Type 0} → Shared F (Bor Locale × Unit {0}) (Option R) → F
      → LocaleValue → Option R
      → Type 0
  Gives g f l r = (locale : Locale) × (locale_view locale ≡ l) × FnReturnsAt g f locale r

  -- r is the first answer: that of the first locale that gives some; none where no locale does
  abbrev pub FirstAnswer : (LocaleValue → Option R → Type 0) → List LocaleValue → Option R → Type 0
  FirstAnswer gives [] r = r ≡ None
  FirstAnswer gives (l ∷ ls) r = (IsSome r × gives l r) ⊎ (gives l None × FirstAnswer gives ls r)
