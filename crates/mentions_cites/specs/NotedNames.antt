-- For the code: names as they are shown, with the first mentions that show them.
use Rattle.std.specs.Prelude.{ℕ, Option}
use Rattle.std.specs.BTreeMap.{BTreeMap, get}
use Rattle.std.specs.declared.cmp.Ordering.{Ordering}
use Rattle.mentions_groups.specs.contracts.shown.ShownNamesOrd.TheImpl as names_ord
use Rattle.mentions_groups.specs.declared.shown.ShownNames.{ShownNames}

-- the order of names as they are shown
abbrev pub names_cmp : ShownNames → ShownNames → Ordering
names_cmp = (names_ord.ghosts).cmp

-- the index that is noted for names
abbrev pub first_noted : BTreeMap ShownNames ℕ → ShownNames → Option ℕ
first_noted noted names = get names_cmp noted names
