-- What is handed out stands in the buffer, and the status is one of the call.
use Rattle.gamhilon_c.proofs.TextCalls.{cite_status, hands_text}
use Rattle.gamhilon_c.proofs.gamhilon_cite.Goals as goal

pub returns : goal.returns
returns c = record {
  text = hands_text _ _ _ _ _ c.hand_out_of_texts.ensures;
  status = cite_status _ _ _ _ _ c.hand_out_of_texts.ensures;
}
