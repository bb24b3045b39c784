-- Places that a map keeps by name.
use Rattle.std.specs.Prelude.{ℕ, Option}
use Rattle.std.specs.BTreeMap.{BTreeMap, get_by_text}
use Rattle.std.specs.declared.string.String.{String}
use Rattle.value_styles.specs.Element.{Name}

-- the place that the map keeps for a name
abbrev pub place_named : {Y : Type 0} → BTreeMap (String Y) ℕ → Name → Option ℕ
place_named places name = get_by_text places name
