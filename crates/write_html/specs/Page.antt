-- The text of HTML that is being written, with what is still to be written.
use Rattle.std.specs.Prelude.{ℕ, Bool, true, false, List, map, reverse, string_bytes}
use Rattle.cite_pieces.specs.declared.piece.Piece.{Piece}
use Rattle.write_html.specs.Shown.{base, continued, spoken}
use Rattle.write_html.specs.declared.html.OpenWrap.{OpenWrap}
use Rattle.write_html.specs.declared.html.OpenWrap.TheVariants.{Quotes}
use Rattle.write_html.specs.declared.html.Page.{Page}

abbrev pub open_quotes : OpenWrap → Bool
open_quotes Quotes = true
open_quotes _ = false

-- the same of wraps, the innermost first
abbrev pub are_quotes : List OpenWrap → List Bool
are_quotes wraps = reverse (map open_quotes wraps)

-- the text of a page, in which these characters come next
abbrev pub with_characters : Page → List ℕ → List ℕ
with_characters page more = continued (string_bytes page.markup.text) page.markup.takes_space more

-- the same of pieces, where such wraps are open around them
abbrev pub with_pieces_in : Page → List Bool → List Piece → List ℕ
with_pieces_in page around more = with_characters page (map base (spoken page.marks around more))

abbrev pub with_pieces : Page → List Piece → List ℕ
with_pieces page more = with_pieces_in page (are_quotes page.wraps.items) more
