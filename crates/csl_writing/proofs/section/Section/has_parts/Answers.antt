use Rattle.csl_writing.proofs.SectionSteps.{pieces_tell}
use Rattle.csl_writing.proofs.section.Section.has_parts.Goals as goal

pub returns : goal.returns
returns c = λ section h.
    pieces_tell _ _ c.args.self.now.picking.pieces.items section.picked.parts c.is_empty.ensures c.args.self.now.picking.pieces.ok.0 h.pieces
