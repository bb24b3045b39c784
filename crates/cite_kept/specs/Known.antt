-- The versions that ids have.
use Rattle.std.specs.Prelude.{◌≡◌, ℕ, ◌<◌, List, Option, Some, string_bytes}
use Rattle.std.specs.BTreeMap.{is_at}
use Rattle.std.specs.Cmp.Lexicographic.{slice_cmp}
use Rattle.std.specs.Global.{Global}
use Rattle.std.specs.Map.{lookup}
use Rattle.std.specs.Ordering.{nat_cmp}
use Rattle.std.specs.declared.string.String.{String}

-- what contracts see of the versions
pub record Known : Type 0 where
  -- the numbers of the versions, by the ids
  pub entries : List (String Global × ℕ)
  -- how many were given; each has a number below this
  pub given : ℕ

-- the number of the version that an id with these bytes has
abbrev pub version_of : Known → List ℕ → Option ℕ
version_of known id = lookup (is_at (λ k. slice_cmp nat_cmp id (string_bytes k))) known.entries

-- no version is one that is still to be given, and no two ids have the same one
pub record AreKnown (known : Known) : Type 0 where
  pub below : (id : List ℕ) (n : ℕ) → version_of known id ≡ Some n → n < known.given
  pub apart : (a b : List ℕ) (n : ℕ)
      → version_of known a ≡ Some n → version_of known b ≡ Some n → a ≡ b
