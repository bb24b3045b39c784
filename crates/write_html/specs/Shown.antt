-- The text of a stream of pieces, as HTML shows it.
use Rattle.std.specs.Prelude.{ℕ, Bool, true, false, not, ◌&&◌, ◌==◌, List, [], ◌∷◌, ◌++◌, if◌then◌else◌, map, string_bytes, encode_utf8_all, unwrap_or}
use Rattle.std.specs.Char.{is_whitespace}
use Rattle.std.specs.Map.{lookup}
use Rattle.std.specs.Str.{byte, chars}
use Rattle.cite_pieces.specs.declared.piece.Piece.{Piece}
use Rattle.cite_pieces.specs.declared.piece.Piece.TheVariants.{Text, Open, Close}
use Rattle.cite_pieces.specs.declared.piece.Wrap.{Wrap}
use Rattle.cite_pieces.specs.declared.piece.Wrap.TheVariants.{Quotes}
use Rattle.cite_texts.specs.Lines.{is_of_no_line}
use Rattle.cite_texts.specs.declared.quotes.QuoteMarks.{QuoteMarks}
use Rattle.write_html.specs.Text.{text_in}
use Rattle.write_html.specs.declared.superscripts.TheConstants.{SUPERSCRIPTS}

-- the marks of quotes inside quotes, and of quotes around them
abbrev pub inside : QuoteMarks → QuoteMarks
inside marks = record {
  «open» = marks.inner_open;
  close = marks.inner_close;
  inner_open = marks.«open»;
  inner_close = marks.close;
}

abbrev pub is_quotes : Wrap → Bool
is_quotes (Quotes source) = true
is_quotes _ = false

-- the characters of pieces, with the marks of quotes. Of each wrap that is open around them, the
-- innermost first, it is known whether it stands for quotes
abbrev pub spoken : QuoteMarks → List Bool → List Piece → List ℕ
spoken marks around [] = []
spoken marks around (Text text ∷ pieces) = chars (string_bytes text) ++ spoken marks around pieces
spoken marks around (Open wrap ∷ pieces) = if is_quotes wrap
    then chars marks.«open».now ++ spoken (inside marks) (true ∷ around) pieces
    else spoken marks (false ∷ around) pieces
spoken marks [] (Close ∷ pieces) = spoken marks [] pieces
spoken marks (quotes ∷ around) (Close ∷ pieces) = if quotes
    then chars marks.inner_close.now ++ spoken (inside marks) around pieces
    else spoken marks around pieces

-- the character that one shows above the line; any other is itself
abbrev pub base : ℕ → ℕ
base c = unwrap_or (lookup (λ superscript. superscript == c) SUPERSCRIPTS.now) c

-- characters in one line. Control characters that are white space become a space, where one may
-- stand: after a character that is no space. Others are left out
abbrev pub in_line : Bool → List ℕ → List ℕ
in_line takes_space [] = []
in_line takes_space (c ∷ cs) = if is_of_no_line c
    then (if is_whitespace c && takes_space then byte " " ∷ in_line false cs
    else in_line takes_space cs)
    else c ∷ in_line (not (c == byte " ")) cs

-- the text of a stream, in UTF-8
abbrev pub shown : QuoteMarks → List Piece → List ℕ
shown marks pieces = encode_utf8_all (in_line false (map base (spoken marks [] pieces)))

-- the text of HTML, in which these characters come next
abbrev pub continued : List ℕ → Bool → List ℕ → List ℕ
continued html takes_space more = text_in html ++ encode_utf8_all (in_line takes_space more)
