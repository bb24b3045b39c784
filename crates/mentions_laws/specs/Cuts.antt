-- Names that a cite doesn't show stand before it, without reading how cites are cut.
use Rattle.std.specs.Prelude.{◌≡◌, ℕ, ◌<◌, None, Option, Some}

-- of cites, by the names of each, and by whether it is shown whole
module _ (names_at : ℕ → Option ℕ) (IsWhole : ℕ → Type 0) where
  -- the names of the cite at k are those of the last whole cite before it that has names
  pub record NamesStandBefore (k : ℕ) : Type 0 where
    pub names : ℕ
    pub has_names : names_at k ≡ Some names
    pub last : ℕ
    pub before : last < k
    pub whole : IsWhole last
    pub same : names_at last ≡ Some names
    pub none_between : (j : ℕ) → last < j → j < k → IsWhole j → names_at j ≡ None
