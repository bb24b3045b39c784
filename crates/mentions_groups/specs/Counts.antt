-- For the code: how many of each class were counted, and the suffix that the next one gets.
use Rattle.std.specs.Prelude.{ℕ, List, None, Option, Some, if◌then◌else◌, nat_eq, unwrap_or}
use Rattle.std.specs.HashMap.{HashMap, get}
use Rattle.std.specs.List.{list_any}

module _ {S : Type 0} where
  abbrev pub count : HashMap ℕ ℕ S → ℕ → ℕ
  count counts class = unwrap_or (get nat_eq counts class) 0

  -- where these classes get suffixes
  abbrev pub suffix_by : List ℕ → HashMap ℕ ℕ S → Option ℕ → Option ℕ
  suffix_by adding counts None = None
  suffix_by adding counts (Some class) =
      if list_any (nat_eq class) adding then Some (count counts class) else None
