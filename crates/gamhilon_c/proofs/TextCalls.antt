-- What is handed out is a text in its place, and the status is one of the call.
use Rattle.std.proofs.Common.{◌≡◌, inl, inr, ℕ, ◌⊎◌, List, Result, Ok, Err, String, Global, string_bytes, ap, ◌∙◌, arith}
use Rattle.std.specs.Prelude.{IfErr}
use Rattle.cite_inputs.specs.Status.{status}
use Rattle.cite_inputs.specs.declared.error.CallError.{CallError}
use Rattle.cite_inputs.specs.declared.error.CallError.TheVariants as errors
use Rattle.gamhilon_c.specs.Called.{PlacesText}
use Rattle.gamhilon_c.specs.OfTexts.{HandsOutOfTexts, HandsText, IsCiteStatus, IsFaultStatus}

module _ (code : ℕ) (before after : List ℕ) (needed : ℕ) where
  placed : (text : List ℕ) → PlacesText text code before after needed → HandsText code before after needed
  placed text h = elim h.1 [
    | inl y ↦ record {
      answered = λ c. (text, y.1, h.0);
      too_small = λ c. absurd (omega (arith, y.0));
      kept = λ c. absurd (c y.0);
      nothing_needed = λ c e. absurd (c y.0);
    }
    | inr y ↦ record {
      answered = λ c. absurd (omega (arith, y.0));
      too_small = λ c. omega (arith, h.0, y.2);
      kept = λ c. y.1;
      nothing_needed = λ c e. absurd (e y.0);
    }
  ]

  refused : (e : CallError) → code ≡ status e → after ≡ before → needed ≡ 0 → HandsText code before after needed
  refused (errors.Fault fault) s same none = record { answered = λ c. absurd (omega arith); too_small = λ c. absurd (omega arith); kept = λ c. same; nothing_needed = λ c d. none }
  refused (errors.LimitExceeded remark) s same none = record { answered = λ c. absurd (omega arith); too_small = λ c. absurd (omega arith); kept = λ c. same; nothing_needed = λ c d. none }
  refused errors.TooManyItems s same none = record { answered = λ c. absurd (omega arith); too_small = λ c. absurd (omega arith); kept = λ c. same; nothing_needed = λ c d. none }
  refused errors.OutOfMemory s same none = record { answered = λ c. absurd (omega arith); too_small = λ c. absurd (omega arith); kept = λ c. same; nothing_needed = λ c d. none }

  pub hands_text : (text : Result (String Global) CallError) → HandsOutOfTexts text code before after needed → HandsText code before after needed
  hands_text (Ok text) h = placed (string_bytes text) h
  hands_text (Err e) h = refused e h.0 h.1 h.2

  placed_status : (text : List ℕ) → PlacesText text code before after needed → (code ≡ 0) ⊎ (code ≡ 6)
  placed_status text h = elim h.1 [
    | inl y ↦ inl y.0
    | inr y ↦ inr y.0
  ]

  cite_placed : (code ≡ 0) ⊎ (code ≡ 6) → IsCiteStatus code
  cite_placed (inl z) = inl z
  cite_placed (inr z) = inr (inr (inr (inr (inl z))))

  cite_refused : (e : CallError) → code ≡ status e → IsCiteStatus code
  cite_refused (errors.Fault fault) s = inr (inl s)
  cite_refused (errors.LimitExceeded remark) s = inr (inr (inr (inr (inr s))))
  cite_refused errors.TooManyItems s = inr (inr (inl s))
  cite_refused errors.OutOfMemory s = inr (inr (inr (inl s)))

  pub cite_status : (text : Result (String Global) CallError) → HandsOutOfTexts text code before after needed → IsCiteStatus code
  cite_status (Ok text) h = cite_placed (placed_status (string_bytes text) h)
  cite_status (Err e) h = cite_refused e h.0

  fault_placed : (code ≡ 0) ⊎ (code ≡ 6) → IsFaultStatus code
  fault_placed (inl z) = inl z
  fault_placed (inr z) = inr (inr z)

  pub fault_status : (text : Result (String Global) CallError) → IfErr text (λ e. e ≡ errors.OutOfMemory) → HandsOutOfTexts text code before after needed → IsFaultStatus code
  fault_status (Ok text) only h = fault_placed (placed_status (string_bytes text) h)
  fault_status (Err e) only h = inr (inl (h.0 ∙ ap status only))
