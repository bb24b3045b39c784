-- Where in a text an error is.
use Rattle.std.specs.Prelude.{◌≡◌, ℕ, ◌+◌, ◌≤◌, List, length, take}
use Rattle.style_xml.specs.Newlines.{newline_count}
use Rattle.style_xml.specs.declared.error.Place.{Place}
use Rattle.style_xml.specs.declared.error.XmlError.{XmlError}
use Rattle.style_xml.specs.declared.error.XmlError.TheVariants.{Malformed, OutOfMemory}

-- the place behind so many bytes of the text
pub record IsPlaceBehind (text : List ℕ) (place : Place) (offset : ℕ) : Type 0 where
  pub within : offset ≤ length text
  pub line : place.line ≡ newline_count (take offset text) + 1
  pub column : place.column ≤ offset + 1

-- the error is at a place of the text
abbrev pub IsErrorIn : List ℕ → XmlError → Type 0
IsErrorIn text (Malformed fault place) = (offset : ℕ) × IsPlaceBehind text place offset
IsErrorIn text OutOfMemory = Unit {0}
