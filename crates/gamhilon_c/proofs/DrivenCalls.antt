-- What is handed out is what comes of the driven document.
use Rattle.std.proofs.Common.{◌≡◌, inl, inr, ℕ, List, Option, Result, Ok, Err, String, Global, string_bytes, arith}
use Rattle.document_answer.specs.Status.{status}
use Rattle.document_answer.specs.declared.error.RunError.{RunError}
use Rattle.document_answer.specs.declared.error.RunError.TheVariants as errors
use Rattle.document_answer.specs.Run.{IsDocumentThat, IsRefusedFor}
use Rattle.document_driven.specs.Drive.{Drives, Tells}
use Rattle.document_driven.specs.DrivenForm.{DrivenDocument}
use Rattle.gamhilon_c.specs.Called.{HandsOut, PlacesText}
use Rattle.gamhilon_c.specs.CalledDriven.{CalledDriven}

module _ (read : Option DrivenDocument) (code : ℕ) (before after : List ℕ) (needed : ℕ) where
  text_handed : (text : List ℕ) → IsDocumentThat read (Tells text) → PlacesText text code before after needed → CalledDriven read code before after needed
  text_handed text d h = elim h.1 [
    | inl y ↦ record {
      answered = λ c. (d.0, d.1, (text, d.2, (y.1, h.0)));
      no_document = λ c. absurd (omega (arith, y.0));
      ring = λ c. absurd (omega (arith, y.0));
      overflow = λ c. absurd (omega (arith, y.0));
      too_small = λ c. absurd (omega (arith, y.0));
      kept = λ c. absurd (c y.0);
      nothing_needed = λ c e. absurd (c y.0);
      is_status = (omega (arith, y.0), λ c. absurd (omega (arith, y.0)));
    }
    | inr y ↦ record {
      answered = λ c. absurd (omega (arith, y.0));
      no_document = λ c. absurd (omega (arith, y.0));
      ring = λ c. absurd (omega (arith, y.0));
      overflow = λ c. absurd (omega (arith, y.0));
      too_small = λ c. (d.0, d.1, (text, d.2, (h.0, omega (arith, h.0, y.2))));
      kept = λ c. y.1;
      nothing_needed = λ c e. absurd (e y.0);
      is_status = (omega (arith, y.0), λ c. absurd (omega (arith, y.0)));
    }
  ]

  refused : (e : RunError) → IsRefusedFor (λ d. d.document) e read → code ≡ status e → after ≡ before → needed ≡ 0 → CalledDriven read code before after needed
  refused errors.Output h s same none = absurd h
  refused (errors.MacroRing place i) h s same none = record {
    answered = λ c. absurd (omega arith);
    no_document = λ c. absurd (omega arith);
    ring = λ c. (h.0, h.1, (place, i, h.2));
    overflow = λ c. absurd (omega arith);
    too_small = λ c. absurd (omega arith);
    kept = λ c. same;
    nothing_needed = λ c d. none;
    is_status = (omega arith, λ c. absurd (omega arith));
  }
  refused errors.Document h s same none = record {
    answered = λ c. absurd (omega arith);
    no_document = λ c. h;
    ring = λ c. absurd (omega arith);
    overflow = λ c. absurd (omega arith);
    too_small = λ c. absurd (omega arith);
    kept = λ c. same;
    nothing_needed = λ c d. none;
    is_status = (omega arith, λ c. absurd (omega arith));
  }
  refused errors.NumberOverflow h s same none = record {
    answered = λ c. absurd (omega arith);
    no_document = λ c. absurd (omega arith);
    ring = λ c. absurd (omega arith);
    overflow = λ c. h;
    too_small = λ c. absurd (omega arith);
    kept = λ c. same;
    nothing_needed = λ c d. none;
    is_status = (omega arith, λ c. absurd (omega arith));
  }
  refused errors.OutOfMemory h s same none = record {
    answered = λ c. absurd (omega arith);
    no_document = λ c. absurd (omega arith);
    ring = λ c. absurd (omega arith);
    overflow = λ c. absurd (omega arith);
    too_small = λ c. absurd (omega arith);
    kept = λ c. same;
    nothing_needed = λ c d. none;
    is_status = (omega arith, λ c. absurd (omega arith));
  }

  pub called_driven : (text : Result (String Global) RunError) → Drives text read → HandsOut text code before after needed
      → CalledDriven read code before after needed
  called_driven (Ok text) p h = text_handed (string_bytes text) p h
  called_driven (Err e) p h = refused e p h.0 h.1 h.2
