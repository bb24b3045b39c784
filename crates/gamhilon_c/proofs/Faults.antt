-- What is handed out is the fault of the document.
use Rattle.std.proofs.Common.{◌≡◌, inl, inr, ℕ, ◌<◌, ◌⊎◌, List, [], length, Option, Result, Ok, Err, String, Global, string_bytes, subst, ap, ◌∙◌, sym, arith}
use Rattle.std.specs.Prelude.{IsSome, None}
use Rattle.serde_json.specs.Data.{Data}
use Rattle.document_values.specs.declared.fault.Fault.{Fault}
use Rattle.document_answer.specs.FaultText.{fault_text}
use Rattle.document_answer.specs.Status.{status}
use Rattle.document_answer.specs.TellsFault.{IsFaultText, TellsFault}
use Rattle.document_answer.specs.declared.error.RunError.{RunError}
use Rattle.gamhilon_c.specs.Called.{Fills, HandsOut, PlacesText}
use Rattle.gamhilon_c.specs.FindsFault.{FindsFault}

module _ {D : Type 0} (read : Option D) (value : Option Data) (code : ℕ) (before after : List ℕ) (needed : ℕ) where
  -- an empty text stands in every buffer
  sound : (text : List ℕ) → IsSome read → text ≡ [] → PlacesText text code before after needed → FindsFault read value code before after needed
  sound text is none h = elim h.1 [
    | inl y ↦ record {
      answered = λ c. inl (is, h.0 ∙ ap length none, (subst (λ t. Fills t before after) none y.1).1);
      too_small = λ c. absurd (omega (arith, y.0));
      kept = λ c. absurd (c y.0);
      nothing_needed = λ c e. absurd (c y.0);
      is_status = inl y.0;
    }
    | inr y ↦ absurd (omega (arith, y.2, ap length none))
  ]

  told : (text : List ℕ) → IsFaultText text read value → PlacesText text code before after needed → FindsFault read value code before after needed
  told text f h = elim h.1 [
    | inl y ↦ record {
      answered = λ c. inr (f.0, (f.1.0, f.1.1, (subst (λ t. Fills t before after) f.1.2 y.1, h.0 ∙ ap length f.1.2)));
      too_small = λ c. absurd (omega (arith, y.0));
      kept = λ c. absurd (c y.0);
      nothing_needed = λ c e. absurd (c y.0);
      is_status = inl y.0;
    }
    | inr y ↦ record {
      answered = λ c. absurd (omega (arith, y.0));
      too_small = λ c. (f.0, (f.1.0, f.1.1, (h.0 ∙ ap length f.1.2, omega (arith, h.0, y.2))));
      kept = λ c. y.1;
      nothing_needed = λ c e. absurd (e y.0);
      is_status = inr (inr y.0);
    }
  ]

  pub finds_fault : (text : Result (String Global) RunError) → TellsFault text read value → HandsOut text code before after needed → FindsFault read value code before after needed
  finds_fault (Ok text) (inl s) h = sound (string_bytes text) s.0 s.1 h
  finds_fault (Ok text) (inr f) h = told (string_bytes text) f h
  finds_fault (Err e) t h =
      let five : code ≡ 5 = h.0 ∙ ap status t in
      record {
        answered = λ c. absurd (omega (arith, five));
        too_small = λ c. absurd (omega (arith, five));
        kept = λ c. h.1;
        nothing_needed = λ c d. h.2;
        is_status = inr (inl five);
      }
