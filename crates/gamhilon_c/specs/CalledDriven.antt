-- What a call for what comes of a driven document does.
use Rattle.std.specs.Prelude.{◌≡◌, ◌≢◌, ℕ, ◌<◌, ◌≤◌, List, length, Option, None}
use Rattle.document_answer.specs.Run.{HasTooLargeNumbers, IsDocumentThat}
use Rattle.document_driven.specs.Drive.{Tells}
use Rattle.document_driven.specs.DrivenForm.{DrivenDocument}
use Rattle.gamhilon_c.specs.Called.{Fills, HasRing}

-- there is a driven document, and the text of what comes of it is such
abbrev pub HasTextThat : Option DrivenDocument → (List ℕ → Type 0) → Type 0
HasTextThat read Such = IsDocumentThat read (λ d. (text : List ℕ) × Tells text d × Such text)

-- A call that ended with the status `code` and told the length `needed`. The bytes that it was
-- given are the driven document of `read`, or none; and the buffer held `before` and then `after`.
pub record CalledDriven (read : Option DrivenDocument) (code : ℕ) (before after : List ℕ)
    (needed : ℕ)
    : Type 0 where
  pub answered : code ≡ 0
      → HasTextThat read (λ text. Fills text before after × (needed ≡ length text))
  pub no_document : code ≡ 2 → read ≡ None
  pub ring : code ≡ 3 → IsDocumentThat read (λ d. HasRing d.document)
  pub overflow : code ≡ 4 → IsDocumentThat read (λ d. HasTooLargeNumbers d.document)
  pub too_small : code ≡ 6
      → HasTextThat read (λ text. (needed ≡ length text) × (length before < needed))
  pub kept : code ≢ 0 → after ≡ before
  pub nothing_needed : code ≢ 0 → code ≢ 6 → needed ≡ 0
  pub is_status : (code ≤ 6) × (code ≢ 1)
