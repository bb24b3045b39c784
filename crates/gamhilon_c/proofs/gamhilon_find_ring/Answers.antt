-- What is handed out of a ring is of the document.
use Rattle.gamhilon_c.proofs.Rings.{finds_ring}
use Rattle.gamhilon_c.proofs.gamhilon_find_ring.Goals as goal

pub returns : goal.returns
returns c = finds_ring _ _ _ _ _ c.answer_bytes-answer.ensures c.hand_out_ring.ensures
