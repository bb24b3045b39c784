-- Distinct keys in the order in which they came.
use Rattle.std.specs.Prelude.{◌≡◌, ℕ, Bool, List, [], ◌∷◌, ◌++◌, if◌then◌else◌}
use Rattle.std.specs.BTreeMap.{BTreeMap, get}
use Rattle.std.specs.List.{list_any, position}
use Rattle.std.specs.declared.cmp.Ordering.{Ordering}

-- what contracts see of a set
pub record Keys (K : Type 0) : Type 0 where
  -- the keys, by their indexes
  pub keys : List K

module _ {K : Type 0} (eq : K → K → Bool) where
  -- the keys with k at the end, unless one is equal to it
  abbrev pub with_key : List K → K → List K
  with_key keys k = if list_any (eq k) keys then keys else keys ++ k ∷ []

  -- the map has the index of each key
  abbrev pub IndexesOf : (K → K → Ordering) → List K → BTreeMap K ℕ → Type 0
  IndexesOf cmp keys indexes = (k : K) → get cmp indexes k ≡ position (eq k) keys
