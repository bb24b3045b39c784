-- For the code: the groups that a map from texts leads to.
use Rattle.std.specs.Prelude.{◌≡◌, ℕ, ◌<◌, Some, String}
use Rattle.std.specs.BTreeMap.{BTreeMap, get}
use Rattle.std.specs.String.{string_cmp}
use Rattle.std.specs.declared.alloc.Global.{Global}
use Rattle.rounds_ambiguity.specs.declared.classes.Class.{Class}
use Rattle.rounds_ambiguity.specs.declared.classes.Class.TheVariants.{Group}

-- a text on the heap
abbrev pub HeapText : Type 0
HeapText = String Global

-- each is one of so many
abbrev pub AreInRange : BTreeMap HeapText Class → ℕ → Type 0
AreInRange by_text count = (text : HeapText) (i : ℕ) → get string_cmp by_text text ≡ Some (Group i)
    → i < count
