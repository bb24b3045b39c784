-- The calls of the tree appended its text.
use Rattle.std.proofs.Common.{refl}
use Rattle.document_answer.proofs.Written.{text_after}
use Rattle.document_answer.proofs.printing.push_child.Goals as goal

pub returns-in-Ok : goal.returns-in-Ok
returns-in-Ok c = text_after c.args.text.now _ c.write_buf.new.w (c.in-Ok.ensures refl)
