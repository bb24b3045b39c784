-- What the calls on sessions do. Of the text that they hand out it is said where it stands, and not
-- which one it is.
use Rattle.std.specs.Prelude.{◌≡◌, ℕ, ◌⊎◌, List, Result, Ok, Err, String, string_bytes}
use Rattle.std.specs.declared.alloc.Global.{Global}
use Rattle.session_handle.specs.Status.{session_status}
use Rattle.session_handle.specs.declared.error.SessionError.{SessionError}
use Rattle.gamhilon_c.specs.Called.{PlacesText}

-- the statuses of a call that changes a session
abbrev pub IsEditStatus : ℕ → Type 0
IsEditStatus code =
    (code ≡ 0) ⊎ (code ≡ 2) ⊎ (code ≡ 4) ⊎ (code ≡ 5) ⊎ (code ≡ 10) ⊎ (code ≡ 11)

-- those of a call for a text of a session
abbrev pub IsSessionStatus : ℕ → Type 0
IsSessionStatus code = (code ≡ 6) ⊎ IsEditStatus code

-- ---- for private clauses

-- a text stands in the buffer where that is as long; else the status tells why there is none
abbrev pub HandsOutOfSession : Result (String Global) SessionError → ℕ → List ℕ → List ℕ → ℕ
    → Type 0
HandsOutOfSession (Ok text) code before after needed =
    PlacesText (string_bytes text) code before after needed
HandsOutOfSession (Err e) code before after needed =
    (code ≡ session_status e) × (after ≡ before) × (needed ≡ 0)
