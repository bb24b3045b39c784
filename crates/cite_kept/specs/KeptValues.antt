-- Values that are kept under versions.
use Rattle.std.specs.Prelude.{◌≡◌, ℕ, ◌≤◌, ◌-◌, cond, List, Option, None, Some, option_map, filter, leb}
use Rattle.std.specs.BTreeMap.{is_at}
use Rattle.std.specs.Map.{lookup, set_value}
use Rattle.std.specs.Option.{option_map_or}
use Rattle.std.specs.Ordering.{nat_cmp, ordering_then}
use Rattle.std.specs.declared.cmp.Ordering.{Ordering}
use Rattle.cite_kept.specs.Known.{Known}
use Rattle.cite_kept.specs.declared.kept.Asked.{Asked}
use Rattle.cite_kept.specs.declared.versions.Version.{Version}

-- what contracts see of what is kept
pub record KeptValues (K V : Type 0) : Type 0 where
  -- the versions that ids have
  pub versions : Known
  -- the values, each with the last answer that asked for it
  pub entries : List ((Version × K) × Asked V)
  -- the answer that is written
  pub answer : ℕ

module _ {K : Type 0} (cmp : K → K → Ordering) where
  -- the order of the keys: that of their versions first
  abbrev pub key_cmp : Version × K → Version × K → Ordering
  key_cmp a b = ordering_then (nat_cmp a.0.number b.0.number) (cmp a.1 b.1)

-- those that one of the last answers asked for, or kept; so many beside the one that is written
abbrev pub asked_within : {K V : Type 0} → ℕ → ℕ → List (K × Asked V) → List (K × Asked V)
asked_within answers now entries = filter (λ e. leb (now - e.1.answer) answers) entries

module _ {K V : Type 0} (cmp : K → K → Ordering) where
  -- what the entries have under a key
  abbrev pub entry_at : List ((Version × K) × Asked V) → Version × K → Option (Asked V)
  entry_at entries key = lookup (is_at (key_cmp cmp key)) entries

  -- the value that is kept under a key
  abbrev pub found : KeptValues K V → Version × K → Option V
  found kept key = option_map (λ a. a.value) (entry_at kept.entries key)

  -- nothing is kept under a version whose number is this or above
  abbrev pub UnusedFrom : ℕ → List ((Version × K) × Asked V) → Type 0
  UnusedFrom given entries =
      (version : Version) (rest : K) → given ≤ version.number
      → entry_at entries (version, rest) ≡ None

  -- the value is kept under this key, by the answer that is written, and other keys have what they
  -- had
  abbrev pub IsKept : KeptValues K V → KeptValues K V → Version × K → V → Type 0
  IsKept old new key value =
      (other : Version × K) → entry_at new.entries other
      ≡ cond (is_at (key_cmp cmp key) other)
      (Some (record { value = value; answer = old.answer })) (entry_at old.entries other)

  -- the same values, where what is kept under a key was asked for by the answer that is written
  abbrev pub asked_now : KeptValues K V → Version × K → KeptValues K V
  asked_now kept key =
      option_map_or
      (λ a. record kept {
        entries =
            set_value (is_at (key_cmp cmp key)) kept.entries (record a { answer = kept.answer });
      })
      (entry_at kept.entries key) kept
