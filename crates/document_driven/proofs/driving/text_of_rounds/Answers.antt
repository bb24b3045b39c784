-- The text is that of what comes of the table.
use Rattle.document_driven.proofs.driving.text_of_rounds.Goals as goal

pub returns-clause-told : goal.returns-clause-told
returns-clause-told c = (c.in_ok-driven.driven, c.in_ok-driven.ensures.driven, c.in_ok-driven_text.ensures)
