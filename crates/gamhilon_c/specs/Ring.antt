-- What a call for the place of a ring does.
use Rattle.std.specs.Prelude.{◌≡◌, ◌≢◌, ℕ, ◌≤◌, Option, None, Result, Ok, Err}
use Rattle.csl_driver.specs.declared.error.RingLocation.{RingLocation}
use Rattle.csl_driver.specs.declared.error.RingLocation.TheVariants as places
use Rattle.driver_assembly.specs.declared.rendered.Rendered.{Rendered}
use Rattle.document_requests.specs.Form.{Document}
use Rattle.document_answer.specs.Run.{HasAnswer, HasFirstRing, HasTooLargeNumbers, IsDocumentThat}
use Rattle.document_answer.specs.Status.{status}
use Rattle.document_answer.specs.declared.error.RunError.{RunError}
use Rattle.document_answer.specs.declared.error.RunError.TheVariants as errors
use Rattle.gamhilon_c.specs.declared.ring.GamhilonRing.{GamhilonRing}

-- the numbers that tell a style's place and that of a macro
abbrev pub ring_numbers : RingLocation → ℕ → GamhilonRing
ring_numbers (places.Request k) i = record { of_bibliography = 0; request = k; macro_index = i }
ring_numbers places.Bibliography i = record { of_bibliography = 1; request = 0; macro_index = i }

-- the numbers tell the place of the document's first ring
abbrev pub TellsFirstRing : GamhilonRing → Document → Type 0
TellsFirstRing r d = (place : RingLocation) × (i : ℕ) × (r ≡ ring_numbers place i)
    × HasFirstRing place i d

-- A call that ended with the status `code`. The bytes that it was given are the document of `read`,
-- or none; and the ring held `before` and then `after`.
pub record FindsRing (read : Option Document) (code : ℕ)
    (before after : GamhilonRing) : Type 0 where
  pub answered : code ≡ 0 → IsDocumentThat read HasAnswer
  pub no_document : code ≡ 2 → read ≡ None
  pub found : code ≡ 3 → IsDocumentThat read (TellsFirstRing after)
  pub overflow : code ≡ 4 → IsDocumentThat read HasTooLargeNumbers
  pub kept : code ≢ 3 → after ≡ before
  pub is_status : (code ≤ 5) × (code ≢ 1)

-- ---- for private clauses

-- the place is noted where there is a ring
abbrev pub NotesRing : RunError → GamhilonRing → GamhilonRing → Type 0
NotesRing (errors.MacroRing place i) before after = after ≡ ring_numbers place i
NotesRing _ before after = after ≡ before

abbrev pub HandsOutRing : Result Rendered RunError → ℕ → GamhilonRing → GamhilonRing → Type 0
HandsOutRing (Ok r) code before after = (code ≡ 0) × (after ≡ before)
HandsOutRing (Err e) code before after = (code ≡ status e) × NotesRing e before after
