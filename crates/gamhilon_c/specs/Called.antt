-- What a call for a text does.
use Rattle.std.specs.Prelude.{◌≡◌, ◌≢◌, ℕ, ◌<◌, ◌≤◌, ◌⊎◌, List, ◌++◌, length, drop, Option, None, Result, Ok, Err, String, string_bytes}
use Rattle.std.specs.declared.alloc.Global.{Global}
use Rattle.csl_driver.specs.declared.error.RingLocation.{RingLocation}
use Rattle.driver_assembly.specs.declared.rendered.Rendered.{Rendered}
use Rattle.document_requests.specs.Form.{Document}
use Rattle.document_answer.specs.Run.{answer, HasAnswer, HasFirstRing, HasTooLargeNumbers, IsDocumentThat}
use Rattle.document_answer.specs.Status.{status}
use Rattle.document_answer.specs.declared.error.RunError.{RunError}

-- some style of the document has a ring
abbrev pub HasRing : Document → Type 0
HasRing d = (place : RingLocation) × (i : ℕ) × HasFirstRing place i d

-- the buffer begins with the text, and the rest of it is as before
abbrev pub Fills : List ℕ → List ℕ → List ℕ → Type 0
Fills text before after = (length text ≤ length before)
    × (after ≡ text ++ drop (length text) before)

-- A call that ended with the status `code` and told the length `needed`. The bytes that it was
-- given are the document of `read`, or none; it was asked for the text that `text_of` makes of the
-- answer; and the buffer held `before` and then `after`.
pub record Called (text_of : Rendered
    → List ℕ) (read : Option Document) (code : ℕ) (before after : List ℕ)
    (needed : ℕ) : Type 0 where
  pub answered : code ≡ 0
      → IsDocumentThat read (λ d. HasAnswer d × Fills (text_of (answer d)) before after
      × (needed ≡ length (text_of (answer d))))
  pub no_document : code ≡ 2 → read ≡ None
  pub ring : code ≡ 3 → IsDocumentThat read HasRing
  pub overflow : code ≡ 4 → IsDocumentThat read HasTooLargeNumbers
  pub too_small : code ≡ 6
      → IsDocumentThat read (λ d. HasAnswer d × (needed ≡ length (text_of (answer d)))
      × (length before < needed))
  pub kept : code ≢ 0 → after ≡ before
  pub nothing_needed : code ≢ 0 → code ≢ 6 → needed ≡ 0
  pub is_status : (code ≤ 6) × (code ≢ 1)

-- ---- for private clauses

-- the text stands in the buffer where that is as long, and its length is told
abbrev pub PlacesText : List ℕ → ℕ → List ℕ → List ℕ → ℕ → Type 0
PlacesText text code before after needed =
    (needed ≡ length text) × (((code ≡ 0) × Fills text before after)
    ⊎ ((code ≡ 6) × (after ≡ before) × (length before < length text)))

-- so does a text, if there is one; else the status tells why there is none
abbrev pub HandsOut : Result (String Global) RunError → ℕ → List ℕ → List ℕ → ℕ → Type 0
HandsOut (Ok text) code before after needed =
    PlacesText (string_bytes text) code before after needed
HandsOut (Err e) code before after needed = (code ≡ status e) × (after ≡ before) × (needed ≡ 0)
