-- What a call for limits does.
use Rattle.std.specs.Prelude.{◌≡◌, ℕ, ◌⊎◌, List, Option, None}
use Rattle.std.specs.List.{All, Any}
use Rattle.value_styles.specs.Ring.{HasNoRing}
use Rattle.value_styles.specs.Style.{StyleValue}
use Rattle.driver_styles.specs.Limited.{Exceeds, IsWithinLimits}
use Rattle.driver_styles.specs.declared.limits.Excess.TheVariants as excess
use Rattle.driver_styles.specs.declared.limits.Limits.{Limits}
use Rattle.document_answer.specs.Limited.{AreStylesThat}

-- A call that ended with the status `code`. The bytes that it was given hold the styles of
-- `styles`, or none.
pub record KeepsLimits (limits : Limits) (styles : Option (List StyleValue))
    (code : ℕ) : Type 0 where
  pub within : code ≡ 0
      → AreStylesThat styles (All (λ s. HasNoRing s.macros → IsWithinLimits limits s))
  pub no_document : code ≡ 2 → styles ≡ None
  pub too_deep : code ≡ 7 → AreStylesThat styles (Any (Exceeds excess.Depth limits))
  pub too_many : code ≡ 8 → AreStylesThat styles (Any (Exceeds excess.Elements limits))
  pub is_status : (code ≡ 0) ⊎ (code ≡ 2) ⊎ (code ≡ 5) ⊎ (code ≡ 7) ⊎ (code ≡ 8)
