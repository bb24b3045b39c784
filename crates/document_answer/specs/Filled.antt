-- The bibliography that a driver is asked for, of its parts.
use Rattle.std.specs.Prelude.{ℕ, List, Option}
use Rattle.driver_passes.specs.Request.{Wanted}
use Rattle.value_styles.specs.Style.{LocaleValue, StyleValue}
use Rattle.value_sources.specs.declared.entry.PlainEntry.{PlainEntry}

-- a request for a bibliography in this style
abbrev pub wanted_with : Option (List ℕ) → List LocaleValue → Option (List PlainEntry) → StyleValue
    → Wanted PlainEntry
wanted_with locale locales order style =
    record { style = style; locale = locale; locales = locales; order = order }
