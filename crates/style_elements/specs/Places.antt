-- Where in a text an error is.
use Rattle.std.specs.Prelude.{ℕ, List}
use Rattle.style_xml.specs.Places.{IsPlaceBehind}
use Rattle.style_elements.specs.declared.error.StyleError.{StyleError}
use Rattle.style_elements.specs.declared.error.StyleError.TheVariants.{Malformed, Refused, OutOfMemory}

-- the error is at a place of the text
abbrev pub IsErrorIn : List ℕ → StyleError → Type 0
IsErrorIn text (Malformed fault place) = (offset : ℕ) × IsPlaceBehind text place offset
IsErrorIn text (Refused fault place) = (offset : ℕ) × IsPlaceBehind text place offset
IsErrorIn text OutOfMemory = Unit {0}
