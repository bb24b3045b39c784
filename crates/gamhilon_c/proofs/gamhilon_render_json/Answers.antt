-- What is handed out is of the document.
use Rattle.document_answer.specs.Print.{json_text}
use Rattle.gamhilon_c.proofs.Calls.{called}
use Rattle.gamhilon_c.proofs.gamhilon_render_json.Goals as goal

pub returns : goal.returns
returns c = called json_text _ _ _ _ _ _ c.print_json_bytes-text.ensures c.hand_out.ensures
