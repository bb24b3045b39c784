use Rattle.std.proofs.Common.{◌≡◌, drop}
use Rattle.write_html.specs.Page.{with_pieces}
use Rattle.write_html.specs.Shown.{shown}
use Rattle.write_html.proofs.html.html_of.Given as goal

-- what is written, and the pieces left, are the whole
abbrev pub invariant-loop-piece : goal.invariant-loop-piece
invariant-loop-piece l = with_pieces l.page (drop l.piece-index l.pieces) ≡ shown l.marks l.pieces
