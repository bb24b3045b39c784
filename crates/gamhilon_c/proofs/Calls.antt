-- What is handed out is of the document.
use Rattle.std.proofs.Common.{◌≡◌, inl, inr, ℕ, ◌<◌, List, length, Option, Some, Result, Ok, Err, String, Global, subst, arith}
use Rattle.driver_assembly.specs.declared.rendered.Rendered.{Rendered}
use Rattle.document_requests.specs.Form.{Document}
use Rattle.document_answer.specs.Run.{answer, HasAnswer, IsRefused, Prints}
use Rattle.document_answer.specs.Status.{status}
use Rattle.document_answer.specs.declared.error.RunError.{RunError}
use Rattle.document_answer.specs.declared.error.RunError.TheVariants as errors
use Rattle.gamhilon_c.specs.Called.{Called, Fills, HandsOut, PlacesText}

module _ (text_of : Rendered → List ℕ) (read : Option Document) (code : ℕ) (before after : List ℕ) (needed : ℕ) where
  fits : (d : Document) → read ≡ Some d → HasAnswer d → needed ≡ length (text_of (answer d)) → code ≡ 0 → Fills (text_of (answer d)) before after
      → Called text_of read code before after needed
  fits d is has told z fills = record {
    answered = λ c. (d, is, (has, fills, told));
    no_document = λ c. absurd (omega arith);
    ring = λ c. absurd (omega arith);
    overflow = λ c. absurd (omega arith);
    too_small = λ c. absurd (omega arith);
    kept = λ c. absurd (c z);
    nothing_needed = λ c e. absurd (c z);
    is_status = (omega arith, λ c. absurd (omega arith));
  }

  lacks_buffer : (d : Document) → read ≡ Some d → HasAnswer d → needed ≡ length (text_of (answer d)) → code ≡ 6 → after ≡ before
      → length before < length (text_of (answer d)) → Called text_of read code before after needed
  lacks_buffer d is has told z same less = record {
    answered = λ c. absurd (omega arith);
    no_document = λ c. absurd (omega arith);
    ring = λ c. absurd (omega arith);
    overflow = λ c. absurd (omega arith);
    too_small = λ c. (d, is, (has, told, omega arith));
    kept = λ c. same;
    nothing_needed = λ c e. absurd (e z);
    is_status = (omega arith, λ c. absurd (omega arith));
  }

  text_handed : (d : Document) → read ≡ Some d → HasAnswer d → PlacesText (text_of (answer d)) code before after needed → Called text_of read code before after needed
  text_handed d is has h = elim h.1 [
    | inl y ↦ fits d is has h.0 y.0 y.1
    | inr y ↦ lacks_buffer d is has h.0 y.0 y.1 y.2
  ]

  refused : (e : RunError) → IsRefused e read → code ≡ status e → after ≡ before → needed ≡ 0 → Called text_of read code before after needed
  refused errors.Output h s same none = absurd h
  refused errors.Document h s same none = record {
    answered = λ c. absurd (omega arith);
    no_document = λ c. h;
    ring = λ c. absurd (omega arith);
    overflow = λ c. absurd (omega arith);
    too_small = λ c. absurd (omega arith);
    kept = λ c. same;
    nothing_needed = λ c d. none;
    is_status = (omega arith, λ c. absurd (omega arith));
  }
  refused (errors.MacroRing place i) h s same none = record {
    answered = λ c. absurd (omega arith);
    no_document = λ c. absurd (omega arith);
    ring = λ c. (h.0, h.1, (place, i, h.2));
    overflow = λ c. absurd (omega arith);
    too_small = λ c. absurd (omega arith);
    kept = λ c. same;
    nothing_needed = λ c d. none;
    is_status = (omega arith, λ c. absurd (omega arith));
  }
  refused errors.NumberOverflow h s same none = record {
    answered = λ c. absurd (omega arith);
    no_document = λ c. absurd (omega arith);
    ring = λ c. absurd (omega arith);
    overflow = λ c. h;
    too_small = λ c. absurd (omega arith);
    kept = λ c. same;
    nothing_needed = λ c d. none;
    is_status = (omega arith, λ c. absurd (omega arith));
  }
  refused errors.OutOfMemory h s same none = record {
    answered = λ c. absurd (omega arith);
    no_document = λ c. absurd (omega arith);
    ring = λ c. absurd (omega arith);
    overflow = λ c. absurd (omega arith);
    too_small = λ c. absurd (omega arith);
    kept = λ c. same;
    nothing_needed = λ c d. none;
    is_status = (omega arith, λ c. absurd (omega arith));
  }

  pub called : (text : Result (String Global) RunError) → Prints text_of text read → HandsOut text code before after needed
      → Called text_of read code before after needed
  called (Ok text) p h = text_handed p.0 p.1 (p.2).0 (subst (λ t. PlacesText t code before after needed) (p.2).1 h)
  called (Err e) p h = refused e p h.0 h.1 h.2
