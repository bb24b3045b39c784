-- What is handed out is of the document.
use Rattle.document_answer.specs.Print.{print}
use Rattle.gamhilon_c.proofs.Calls.{called}
use Rattle.gamhilon_c.proofs.gamhilon_render_text.Goals as goal

pub returns : goal.returns
returns c = called print _ _ _ _ _ _ c.print_bytes-text.ensures c.hand_out.ensures
