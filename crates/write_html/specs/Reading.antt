-- HTML, read byte by byte as text and tags.
use Rattle.std.specs.Prelude.{ℕ, List, [], ◌∷◌, ◌++◌, ◌==◌, if◌then◌else◌}
use Rattle.std.specs.Str.{byte}

-- what is read: a byte of the text, a character reference (what stands between & and ;), a tag
-- (what stands between < and >)
pub data Token : Type 0 where
  Letter : ℕ → Token
  Reference : List ℕ → Token
  Tag : List ℕ → Token

-- what a byte stands in, with the bytes of it that were read: text, a reference, a tag, or in a tag
-- a value between quotation marks
pub data Where : Type 0 where
  InText : Where
  InReference : List ℕ → Where
  InTag : List ℕ → Where
  InValue : List ℕ → Where

-- what stands behind a byte. A tag ends with the next > that is in no value
abbrev pub behind : Where → ℕ → Where
behind InText b = if b == byte "<" then InTag []
    else (if b == byte "&" then InReference [] else InText)
behind (InReference read) b = if b == byte ";" then InText else InReference (read ++ b ∷ [])
behind (InTag read) b = if b == byte ">" then InText
    else (if b == byte "\"" then InValue (read ++ b ∷ []) else InTag (read ++ b ∷ []))
behind (InValue read) b =
    if b == byte "\"" then InTag (read ++ b ∷ []) else InValue (read ++ b ∷ [])

-- what is read with a byte, where something ends with it
abbrev pub ended : Where → ℕ → List Token
ended InText b = if b == byte "<" then [] else (if b == byte "&" then [] else Letter b ∷ [])
ended (InReference read) b = if b == byte ";" then Reference read ∷ [] else []
ended (InTag read) b = if b == byte ">" then Tag read ∷ [] else []
ended (InValue read) b = []

abbrev pub where_after : Where → List ℕ → Where
where_after w [] = w
where_after w (b ∷ bs) = where_after (behind w b) bs

abbrev pub tokens : Where → List ℕ → List Token
tokens w [] = []
tokens w (b ∷ bs) = ended w b ++ tokens (behind w b) bs
