-- What the calls on texts do. Of the text that they hand out it is said where it stands, and not
-- which one it is.
use Rattle.std.specs.Prelude.{◌≡◌, ◌≢◌, ℕ, ◌<◌, ◌⊎◌, List, length, Result, Ok, Err, String, string_bytes}
use Rattle.std.specs.declared.alloc.Global.{Global}
use Rattle.cite_inputs.specs.Status.{status}
use Rattle.cite_inputs.specs.declared.error.CallError.{CallError}
use Rattle.gamhilon_c.specs.Called.{Fills, PlacesText}

-- A call that ended with the status `code` and told the length `needed`. The buffer held `before`
-- and then `after`.
pub record HandsText (code : ℕ) (before after : List ℕ) (needed : ℕ) : Type 0 where
  pub answered : code ≡ 0 → (text : List ℕ) × Fills text before after × (needed ≡ length text)
  pub too_small : code ≡ 6 → length before < needed
  pub kept : code ≢ 0 → after ≡ before
  pub nothing_needed : code ≢ 0 → code ≢ 6 → needed ≡ 0

-- the statuses of a call for citations and a bibliography
abbrev pub IsCiteStatus : ℕ → Type 0
IsCiteStatus code =
    (code ≡ 0) ⊎ (code ≡ 2) ⊎ (code ≡ 4) ⊎ (code ≡ 5) ⊎ (code ≡ 6) ⊎ (code ≡ 10)

-- those of a call for what is wrong and odd
abbrev pub IsFaultStatus : ℕ → Type 0
IsFaultStatus code = (code ≡ 0) ⊎ (code ≡ 5) ⊎ (code ≡ 6)

-- ---- for private clauses

-- a text stands in the buffer where that is as long; else the status tells why there is none
abbrev pub HandsOutOfTexts : Result (String Global) CallError → ℕ → List ℕ → List ℕ → ℕ → Type 0
HandsOutOfTexts (Ok text) code before after needed =
    PlacesText (string_bytes text) code before after needed
HandsOutOfTexts (Err e) code before after needed =
    (code ≡ status e) × (after ≡ before) × (needed ≡ 0)
