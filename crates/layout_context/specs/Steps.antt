-- What is done to a text, and to the text before a piece that is written. A text is the list of its
-- bytes.
use Rattle.std.specs.Prelude.{ℕ, ◌-◌, Bool, false, ◌||◌, ◌&&◌, ◌==◌, not, if◌then◌else◌, List, [], ◌∷◌, ◌++◌, length, take, nat_eq, codes, encode_utf8, Option, None, Some}
use Rattle.std.specs.List.{list_any, ends_with, insert_slice}
use Rattle.std.specs.Char.{is_whitespace}
use Rattle.std.specs.Str.{chars}
use Rattle.unicode.specs.Binary.{is_alphabetic}
use Prim.Native.Char.{code}

abbrev pub first_is : (ℕ → Bool) → List ℕ → Bool
first_is p [] = false
first_is p (c ∷ cs) = p c

abbrev pub is_tight : ℕ → Bool
is_tight c = is_whitespace c || c == code "." || c == code "," || c == code "]" || c == code ")"

-- no white space may stand before the text
abbrev pub opens_tight : List ℕ → Bool
opens_tight s = first_is is_tight (chars s)

abbrev pub is_mark : ℕ → Bool
is_mark c = c == code "." || c == code "," || c == code ";" || c == code "!" || c == code "?"

-- the text begins with a mark that closing quotes pull in
abbrev pub opens_with_mark : List ℕ → Bool
opens_with_mark s = first_is is_mark s

abbrev pub has_letter : List ℕ → Bool
has_letter s = list_any is_alphabetic (chars s)

-- t without the ending e; where it ends otherwise, t stays
abbrev pub without_ending : List ℕ → List ℕ → List ℕ
without_ending e t = if ends_with nat_eq t e then take (length t - length e) t else t

-- a character's bytes, and none for a period that follows no period
abbrev pub kept_of : Bool → ℕ → List ℕ
kept_of after_period c = if c == code "." && not after_period then [] else encode_utf8 c

-- the bytes of the characters that are kept
abbrev pub kept_after : Bool → List ℕ → List ℕ
kept_after after_period [] = []
kept_after after_period (c ∷ cs) = kept_of after_period c ++ kept_after (c == code ".") cs

-- s without its periods, but for those that follow a period
abbrev pub without_periods : List ℕ → List ℕ
without_periods s = kept_after false (chars s)

-- U+00A0 as text
abbrev pub no_break_space : List ℕ
no_break_space = encode_utf8 0xA0

abbrev pub ends_in_space : List ℕ → Bool
ends_in_space t = ends_with nat_eq t (codes " ") || ends_with nat_eq t no_break_space

-- t with a space at its end, where it has none
abbrev pub spaced : List ℕ → List ℕ
spaced t = if ends_in_space t then t else t ++ codes " "

-- a character, that begins n bytes before an offset ends, is behind it and not white space
abbrev pub is_seen : ℕ → ℕ → Bool
is_seen n c = n == 0 && not (is_whitespace c)

-- a character that begins n bytes on or later is not white space
abbrev pub visible_from : ℕ → List ℕ → Bool
visible_from n [] = false
visible_from n (c ∷ cs) = is_seen n c || visible_from (n - length (encode_utf8 c)) cs

-- the closing quotes of a locale
pub record ClosingQuotes : Type 0 where
  pub outer : Option (List ℕ)
  pub inner : Option (List ℕ)

abbrev pub ends_with_term : Option (List ℕ) → List ℕ → Bool
ends_with_term None t = false
ends_with_term (Some q) t = ends_with nat_eq t q

abbrev pub term_text : Option (List ℕ) → List ℕ
term_text None = []
term_text (Some q) = q

-- the closing quote at a text's end: the outer one or else the inner one; empty where there is none
abbrev pub quote_at_end : ClosingQuotes → List ℕ → List ℕ
quote_at_end q t = if ends_with_term q.outer t then term_text q.outer
    else if ends_with_term q.inner t
    then term_text q.inner else []

abbrev pub ends_quoted : ClosingQuotes → List ℕ → Bool
ends_quoted q t = not (length (quote_at_end q t) == 0)

-- t with a mark before its closing quote; where it ends in none, t stays
abbrev pub pulled : ClosingQuotes → List ℕ → List ℕ → List ℕ
pulled q mark t = if ends_quoted q t
    then insert_slice t (length t - length (quote_at_end q t)) mark else t
