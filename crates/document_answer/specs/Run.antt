-- What a run prints, and why it prints nothing.
use Rattle.std.specs.Prelude.{◌≡◌, ℕ, Bool, List, map, Option, Some, None, Result, Ok, Err, String, string_bytes}
use Rattle.std.specs.declared.alloc.Global.{Global}
use Rattle.std.specs.declared.convert.Infallible.{Infallible}
use Rattle.value_sources.specs.PlainEntry.{plain_answers}
use Rattle.value_sources.specs.declared.entry.PlainEntry.{PlainEntry}
use Rattle.value_sources.specs.contracts.entry.PlainEntryPartialEq.TheImpl as plain_entry_eq
use Rattle.std.specs.contracts.prelude.InfalliblePartialEq.TheImpl as infallible_eq
use Rattle.csl_driver.specs.Answer.{Job, rendered}
use Rattle.csl_driver.specs.CslAnswer.{rendered_csl}
use Rattle.csl_writing.specs.LayoutWriting.{layout_writing}
use Rattle.driver_passes.specs.Request.{Request, Wanted, with_places}
use Rattle.csl_driver.specs.Promised.{CanBeAnswered}
use Rattle.csl_driver.specs.Rings.{NoRingAtAll, IsFirstRingOf, Overflows}
use Rattle.csl_driver.specs.declared.error.RingLocation.{RingLocation}
use Rattle.driver_assembly.specs.declared.rendered.Rendered.{Rendered}
use Rattle.document_requests.specs.Form.{Document}
use Rattle.document_requests.specs.declared.rounds.Rounds.{Rounds}
use Rattle.document_requests.specs.declared.rounds.Rounds.TheVariants as ways
use Rattle.document_answer.specs.declared.error.RunError.{RunError}
use Rattle.document_answer.specs.declared.error.RunError.TheVariants as errors

-- whether two entries are equal, by their derived test
abbrev pub same_plain_entry : PlainEntry → PlainEntry → Bool
same_plain_entry = (plain_entry_eq.ghosts).eq

-- whether two payloads of a caller's own are equal; a document's locators are texts, so it has none
abbrev pub same_own_payload : Infallible → Infallible → Bool
same_own_payload = (infallible_eq.ghosts).eq

-- requests as the driver keeps them
abbrev pub accepted : List (Request PlainEntry Infallible) → List (Request PlainEntry Infallible)
accepted = map with_places

-- the bibliography that a document asks for
abbrev pub bibliography_of : Document → Wanted PlainEntry
bibliography_of d =
    record { style = d.style; locale = d.locale; locales = d.locales; order = d.order }

-- what a document asks of a driver
abbrev pub document_job : Document → Job PlainEntry Infallible
document_job d =
    record { wanted = bibliography_of d; requests = accepted d.requests; offset = d.offset }

-- the whole answer in so many rounds, or as CSL has it
abbrev pub answer_in : Rounds → Job PlainEntry Infallible → Rendered
answer_in (ways.Mode mode) job =
    rendered same_plain_entry same_own_payload (layout_writing plain_answers) mode job
answer_in ways.Csl job =
    rendered_csl same_plain_entry job (layout_writing plain_answers) same_own_payload

-- the whole answer to a document, in the rounds that it names
abbrev pub answer : Document → Rendered
answer d = answer_in d.rounds (document_job d)

-- the first ring of the styles that a document asks for: where it asks for the style, and the index
-- of its first macro on a ring
abbrev pub HasFirstRing : RingLocation → ℕ → Document → Type 0
HasFirstRing place i d = IsFirstRingOf (accepted d.requests) d.style place i

-- no style that a document asks for has a ring, and its offset and the number of its cited entries
-- together are not above the greatest usize
abbrev pub HasAnswer : Document → Type 0
HasAnswer d = CanBeAnswered same_plain_entry (document_job d)

-- no style that it asks for has a ring, and these together are above the greatest usize
abbrev pub HasTooLargeNumbers : Document → Type 0
HasTooLargeNumbers d = NoRingAtAll (accepted d.requests) d.style
    × Overflows same_plain_entry (accepted d.requests) d.offset

-- there is a document, and it is such
abbrev pub IsDocumentThat : {D : Type 0} → Option D → (D → Type 0) → Type 0
IsDocumentThat {D} read Such = (d : D) × (read ≡ Some d) × Such d

-- why nothing comes of what asks for such a document, where there is one
abbrev pub IsRefusedFor : {D : Type 0} → (D → Document) → RunError → Option D → Type 0
IsRefusedFor document errors.Document read = read ≡ None
IsRefusedFor document (errors.MacroRing place i) read =
    IsDocumentThat read (λ d. HasFirstRing place i (document d))
IsRefusedFor document errors.NumberOverflow read =
    IsDocumentThat read (λ d. HasTooLargeNumbers (document d))
IsRefusedFor document errors.OutOfMemory read = Unit {0}
IsRefusedFor document errors.Output read = ⊥

-- why nothing comes of what indexes point to: one points to nothing, or memory is refused
abbrev pub IsMissing : {A : Type 0} → Option A → RunError → Type 0
IsMissing pointed errors.Document = pointed ≡ None
IsMissing pointed errors.OutOfMemory = Unit {0}
IsMissing pointed _ = ⊥

-- why there is no answer, where the form gives this document, or none
abbrev pub IsRefused : RunError → Option Document → Type 0
IsRefused = IsRefusedFor (λ d. d)

-- the answer, or why there is none
abbrev pub IsRunAnswer : Result Rendered RunError → Option Document → Type 0
IsRunAnswer (Ok r) read = IsDocumentThat read (λ d. HasAnswer d × (r ≡ answer d))
IsRunAnswer (Err e) read = IsRefused e read

-- the text that is made of the answer, or why there is none
abbrev pub Prints : (Rendered → List ℕ) → Result (String Global) RunError → Option Document → Type 0
Prints text_of (Ok text) read =
    IsDocumentThat read (λ d. HasAnswer d × (string_bytes text ≡ text_of (answer d)))
Prints text_of (Err e) read = IsRefused e read
