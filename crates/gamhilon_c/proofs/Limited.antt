-- What a refusal of limits says is what its status says.
use Rattle.std.proofs.Common.{◌≡◌, ℕ, Option, List, Result, Ok, Err, arith, inl, inr}
use Rattle.std.specs.Prelude.{⊤}
use Rattle.value_styles.specs.Style.{StyleValue}
use Rattle.driver_styles.specs.declared.limits.Excess.TheVariants as excess
use Rattle.driver_styles.specs.declared.limits.Limits.{Limits}
use Rattle.document_answer.specs.Limited.{ChecksStyles, limit_status}
use Rattle.document_answer.specs.declared.limits.LimitError.{LimitError}
use Rattle.document_answer.specs.declared.limits.LimitError.TheVariants as errors
use Rattle.gamhilon_c.specs.KeepsLimits.{KeepsLimits}

module _ (limits : Limits) (styles : Option (List StyleValue)) (code : ℕ) where
  pub refused : (e : LimitError) → ChecksStyles limits styles (Err e) → code ≡ limit_status e → KeepsLimits limits styles code
  refused errors.Document h s = record {
    within = λ c. absurd (omega arith);
    no_document = λ c. h;
    too_deep = λ c. absurd (omega arith);
    too_many = λ c. absurd (omega arith);
    is_status = inr (inl s);
  }
  refused errors.OutOfMemory h s = record {
    within = λ c. absurd (omega arith);
    no_document = λ c. absurd (omega arith);
    too_deep = λ c. absurd (omega arith);
    too_many = λ c. absurd (omega arith);
    is_status = inr (inr (inl s));
  }
  refused (errors.Exceeded excess.Depth) h s = record {
    within = λ c. absurd (omega arith);
    no_document = λ c. absurd (omega arith);
    too_deep = λ c. h;
    too_many = λ c. absurd (omega arith);
    is_status = inr (inr (inr (inl s)));
  }
  refused (errors.Exceeded excess.Elements) h s = record {
    within = λ c. absurd (omega arith);
    no_document = λ c. absurd (omega arith);
    too_deep = λ c. absurd (omega arith);
    too_many = λ c. h;
    is_status = inr (inr (inr (inr s)));
  }
