-- The text that is read of HTML.
use Rattle.std.specs.Prelude.{ℕ, List, [], ◌∷◌, ◌++◌, bytes_eq, codes, if◌then◌else◌}
use Rattle.write_html.specs.Reading.{Token, Letter, Reference, Tag, InText, tokens}

-- the character that a reference stands for
abbrev pub character : List ℕ → List ℕ
character r = if bytes_eq r (codes "#34") then codes "\""
    else (if bytes_eq r (codes "#38") then codes "&"
    else (if bytes_eq r (codes "#60") then codes "<"
    else (if bytes_eq r (codes "#62") then codes ">" else [])))

-- letters as they are, and each reference as its character; tags give nothing
abbrev pub text_of : List Token → List ℕ
text_of [] = []
text_of (Letter b ∷ ts) = b ∷ text_of ts
text_of (Reference r ∷ ts) = character r ++ text_of ts
text_of (Tag t ∷ ts) = text_of ts

abbrev pub text_in : List ℕ → List ℕ
text_in html = text_of (tokens InText html)
