-- What is handed out stands in the buffer, and the status is one of the call.
use Rattle.gamhilon_c.proofs.TextCalls.{fault_status, hands_text}
use Rattle.gamhilon_c.proofs.gamhilon_read_references.Goals as goal

pub returns : goal.returns
returns c = record {
  text = hands_text _ _ _ _ _ c.hand_out_of_texts.ensures;
  status = fault_status _ _ _ _ _ c.read_references-read.ensures c.hand_out_of_texts.ensures;
}
