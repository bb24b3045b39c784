-- What is handed out stands in the buffer, and the status is one of the call.
use Rattle.gamhilon_c.proofs.TextCalls.{fault_status, hands_text}
use Rattle.gamhilon_c.proofs.gamhilon_find_cite_fault.Goals as goal

pub returns : goal.returns
returns c = record {
  text = hands_text _ _ _ _ _ c.hand_out_of_texts.ensures;
  status = fault_status _ _ _ _ _ c.find_fault-text.ensures c.hand_out_of_texts.ensures;
}
