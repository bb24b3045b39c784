-- What is handed out of a ring is of the document.
use Rattle.std.proofs.Common.{◌≡◌, ℕ, Option, Result, Ok, Err, arith}
use Rattle.driver_assembly.specs.declared.rendered.Rendered.{Rendered}
use Rattle.document_requests.specs.Form.{Document}
use Rattle.document_answer.specs.Run.{IsRunAnswer, IsRefused}
use Rattle.document_answer.specs.Status.{status}
use Rattle.document_answer.specs.declared.error.RunError.{RunError}
use Rattle.document_answer.specs.declared.error.RunError.TheVariants as errors
use Rattle.gamhilon_c.specs.Ring.{FindsRing, HandsOutRing, NotesRing}
use Rattle.gamhilon_c.specs.declared.ring.GamhilonRing.{GamhilonRing}

module _ (read : Option Document) (code : ℕ) (before after : GamhilonRing) where
  refused : (e : RunError) → IsRefused e read → code ≡ status e → NotesRing e before after → FindsRing read code before after
  refused errors.Output h s n = absurd h
  refused errors.Document h s n = record {
    answered = λ c. absurd (omega arith);
    no_document = λ c. h;
    found = λ c. absurd (omega arith);
    overflow = λ c. absurd (omega arith);
    kept = λ c. n;
    is_status = (omega arith, λ c. absurd (omega arith));
  }
  refused (errors.MacroRing place i) h s n = record {
    answered = λ c. absurd (omega arith);
    no_document = λ c. absurd (omega arith);
    found = λ c. (h.0, h.1, (place, i, n, h.2));
    overflow = λ c. absurd (omega arith);
    kept = λ c. absurd (c s);
    is_status = (omega arith, λ c. absurd (omega arith));
  }
  refused errors.NumberOverflow h s n = record {
    answered = λ c. absurd (omega arith);
    no_document = λ c. absurd (omega arith);
    found = λ c. absurd (omega arith);
    overflow = λ c. h;
    kept = λ c. n;
    is_status = (omega arith, λ c. absurd (omega arith));
  }
  refused errors.OutOfMemory h s n = record {
    answered = λ c. absurd (omega arith);
    no_document = λ c. absurd (omega arith);
    found = λ c. absurd (omega arith);
    overflow = λ c. absurd (omega arith);
    kept = λ c. n;
    is_status = (omega arith, λ c. absurd (omega arith));
  }

  pub finds_ring : (answer : Result Rendered RunError) → IsRunAnswer answer read → HandsOutRing answer code before after → FindsRing read code before after
  finds_ring (Ok r) p h = record {
    answered = λ c. (p.0, p.1, (p.2).0);
    no_document = λ c. absurd (omega (arith, h.0));
    found = λ c. absurd (omega (arith, h.0));
    overflow = λ c. absurd (omega (arith, h.0));
    kept = λ c. h.1;
    is_status = (omega (arith, h.0), λ c. absurd (omega (arith, h.0)));
  }
  finds_ring (Err e) p h = refused e p h.0 h.1
