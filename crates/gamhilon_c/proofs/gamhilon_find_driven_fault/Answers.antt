-- What is handed out is the fault of the driven document.
use Rattle.gamhilon_c.proofs.Faults.{finds_fault}
use Rattle.gamhilon_c.proofs.gamhilon_find_driven_fault.Goals as goal

pub returns : goal.returns
returns c = finds_fault _ _ _ _ _ _ _ c.print_driven_fault_bytes-text.ensures c.hand_out.ensures
