-- What of `src/` holds a section.
use Rattle.std.specs.Prelude.{◌≡◌}
use Rattle.csl_writing.specs.declared.section.Section as declared
use Rattle.layout_picking.specs.Pieces.{tokens}
use Rattle.layout_picking.specs.PiecesView.{tokens_of}
use Rattle.csl_writing.specs.Sections.{Section}

-- the formatting, the pieces and the notes are those of the section
pub record IsSection (s : declared.Section) (section : Section) : Type 0 where
  pub formatting : s.formatting ≡ section.formatting
  pub pieces : tokens_of s.picking.pieces.items ≡ tokens section.picked.parts
  pub notes : s.picking.notes ≡ section.picked.noted
