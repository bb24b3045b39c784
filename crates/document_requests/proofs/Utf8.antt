-- Bytes that are a text, and bytes that are none.
use Rattle.std.proofs.Common.{◌≡◌, ℕ, Bool, true, false, List, Some, None, refl}
use Rattle.std.specs.Str.{IsUtf8, is_utf8}
use Rattle.std.proofs.lemmas.Str.{is_utf8-from_IsUtf8, IsUtf8-from_is_utf8}
use Rattle.document_requests.specs.Form.{utf8_text}

pub text_there : (bs : List ℕ) → IsUtf8 bs → utf8_text bs ≡ Some bs
text_there bs h = rw (is_utf8-from_IsUtf8 bs h) refl

pub no_text : (bs : List ℕ) → ¬ (IsUtf8 bs) → utf8_text bs ≡ None
no_text bs n = by (is_utf8 bs) refl
  where
    by : (b : Bool) → is_utf8 bs ≡ b → utf8_text bs ≡ None
    by true e = absurd (n (IsUtf8-from_is_utf8 bs e))
    by false e = rw e refl
