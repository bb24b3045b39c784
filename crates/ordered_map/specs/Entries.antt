-- Values by distinct keys, in the order in which these came.
use Rattle.std.specs.Prelude.{Bool, List, [], ◌∷◌, ◌++◌, Option, if◌then◌else◌}
use Rattle.std.specs.List.{list_any}
use Rattle.std.specs.Map.{lookup}
pub use Rattle.std.specs.Map.{keys_of}

-- what contracts see of a map
pub record Entries (K V : Type 0) : Type 0 where
  -- the keys with their values, in the order in which they came
  pub entries : List (K × V)

module _ {K V : Type 0} (eq : K → K → Bool) where
  -- the value of the key that is equal to k
  abbrev pub value_at : List (K × V) → K → Option V
  value_at entries k = lookup (eq k) entries

  -- the entries with that of k at the end, unless there is one of an equal key
  abbrev pub with_entry : List (K × V) → K → V → List (K × V)
  with_entry entries k v =
      if list_any (eq k) (keys_of entries) then entries else entries ++ (k, v) ∷ []
