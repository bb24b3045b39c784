-- What a call for the fault of a document does.
use Rattle.std.specs.Prelude.{◌≡◌, ◌≢◌, ℕ, ◌<◌, ◌⊎◌, List, length, Option, None, IsSome}
use Rattle.serde_json.specs.Data.{Data}
use Rattle.document_values.specs.declared.fault.Fault.{Fault}
use Rattle.document_requests.specs.Faults.{IsFaultIn}
use Rattle.document_answer.specs.FaultText.{fault_text}
use Rattle.gamhilon_c.specs.Called.{Fills}

-- there is no document, but a fault of the value, or of the text that is none, that is such
abbrev pub IsFaultThat : {D : Type 0} → Option D → Option Data → (Fault → Type 0) → Type 0
IsFaultThat read value Such = (read ≡ None) × ((f : Fault) × IsFaultIn f value × Such f)

-- A call that ended with the status `code` and told the length `needed`. The bytes that it was
-- given are the value of `value` and the document of `read`, of either form, or none; and the
-- buffer held `before` and then `after`.
pub record FindsFault {D : Type 0} (read : Option D) (value : Option Data) (code : ℕ)
    (before after : List ℕ)
    (needed : ℕ) : Type 0 where
  pub answered : code ≡ 0 → (IsSome read × (needed ≡ 0) × (after ≡ before))
      ⊎ IsFaultThat read value (λ f. Fills (fault_text f) before after
      × (needed ≡ length (fault_text f)))
  pub too_small : code ≡ 6
      → IsFaultThat read value (λ f. (needed ≡ length (fault_text f)) × (length before < needed))
  pub kept : code ≢ 0 → after ≡ before
  pub nothing_needed : code ≢ 0 → code ≢ 6 → needed ≡ 0
  pub is_status : (code ≡ 0) ⊎ (code ≡ 5) ⊎ (code ≡ 6)
