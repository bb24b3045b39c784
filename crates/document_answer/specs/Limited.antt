-- Which documents are within limits.
use Rattle.std.specs.Prelude.{◌≡◌, ℕ, List, map, Option, Some, None, Result, Ok, Err, option_map, ⊤}
use Rattle.std.specs.List.{All, Any}
use Rattle.value_styles.specs.Ring.{HasNoRing}
use Rattle.value_styles.specs.Style.{StyleValue}
use Rattle.driver_styles.specs.Limited.{Exceeds, IsWithinLimits}
use Rattle.driver_styles.specs.declared.limits.Excess.TheVariants as excess
use Rattle.driver_styles.specs.declared.limits.Limits.{Limits}
use Rattle.document_requests.specs.Form.{top_form, value_in}
use Rattle.document_styles.specs.Styles.{NamedStyle, styles_form}
use Rattle.document_values.specs.Words.{◌>>=◌}
use Rattle.document_values.specs.declared.error.ReadError.{ReadError}
use Rattle.document_values.specs.declared.error.ReadError.TheVariants as parts
use Rattle.document_answer.specs.declared.limits.LimitError.{LimitError}
use Rattle.document_answer.specs.declared.limits.LimitError.TheVariants as errors

-- the styles of the document that the bytes are, by their names, where they are of their form; of
-- the rest of the document only the keys are read
unfoldable pub named_styles_in : List ℕ → Option (List NamedStyle)
named_styles_in bytes = do
  value ← value_in bytes
  object ← top_form value
  styles_form object

abbrev pub styles_in : List ℕ → Option (List StyleValue)
styles_in bytes = option_map (map (λ s. s.1)) (named_styles_in bytes)

-- there are styles, and they are such
abbrev pub AreStylesThat : Option (List StyleValue) → (List StyleValue → Type 0) → Type 0
AreStylesThat styles Such = (ss : List StyleValue) × (styles ≡ Some ss) × Such ss

-- each style without a ring is within the limits, or some style exceeds one; a check of styles that
-- are there doesn't call them no document
abbrev pub ChecksEach : Limits → List StyleValue → Result ⊤ LimitError → Type 0
ChecksEach limits styles (Ok done) = All (λ s. HasNoRing s.macros → IsWithinLimits limits s) styles
ChecksEach limits styles (Err (errors.Exceeded which)) = Any (Exceeds which limits) styles
ChecksEach limits styles (Err errors.Document) = ⊥
ChecksEach limits styles (Err errors.OutOfMemory) = ⊤

-- the same of styles that may not be there
abbrev pub ChecksStyles : Limits → Option (List StyleValue) → Result ⊤ LimitError → Type 0
ChecksStyles limits styles (Err errors.Document) = styles ≡ None
ChecksStyles limits styles (Err errors.OutOfMemory) = ⊤
ChecksStyles limits styles result = AreStylesThat styles (λ ss. ChecksEach limits ss result)

abbrev pub limit_status : LimitError → ℕ
limit_status errors.Document = 2
limit_status errors.OutOfMemory = 5
limit_status (errors.Exceeded excess.Depth) = 7
limit_status (errors.Exceeded excess.Elements) = 8

-- what isn't of its form makes the whole no document
abbrev pub unread : ReadError → LimitError
unread (parts.Document fault) = errors.Document
unread parts.OutOfMemory = errors.OutOfMemory
